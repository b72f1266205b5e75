-- A plain list taken apart: password, header and what follows.
use Prim.Native.Nat.{ℕ, ◌+◌, ◌<◌}
use native.Mathlib.Omega.{arith}
use mathlib.Core.Path.{◌≡◌, ◌∙◌}
use mathlib.Core.List.{List, ◌++◌, append_assoc}
use mathlib.Core.Bool.{true, false, not, ◌&&◌, and-false, and-eq-true_iff}
use borrow.Author.Tests.{leb-true, le-leb, lt-leb}
use lib.Dec.{leb}
use lib.ListN.{length, take, drop, length-append, length-drop}
use lib.Seq.{length-take-le, take_at, drop_at}
use Rattle.password.specs.Passing.{passes}
use Rattle.session_configuration.specs.declared.Configuration.{Configuration}
use Rattle.sram.specs.Region.{in_range}
use Rattle.header.specs.Reading.{header_read, announces_none, within, fits}
use Rattle.session_merging.specs.Merging.{plain_header, announced, complete}

module _ (configuration : Configuration) where
  -- a plain list of fewer than 16 bytes
  pub short : (plain : List ℕ) → length plain < 16 → complete configuration plain ≡ false
  unfolding complete
  short plain h = rw (lt-leb 16 (length plain) h, and-false)

  -- a password that does not pass
  pub unpassed : (first rest : List ℕ) → length first ≡ 8 → passes first configuration.password ≡ false
      → complete configuration (first ++ rest) ≡ false
  unfolding complete
  unpassed first rest eight e = rw (take_at first rest 8 eight, e)

  -- a complete list announces bytes that are in range
  pub announced-in_range : (plain : List ℕ) → complete configuration plain ≡ true
      → in_range configuration (plain_header configuration plain).start.0 (length (announced configuration plain)) ≡ true
  unfolding complete
  announced-in_range plain e =
      let header = plain_header configuration plain in
      let p = passes (take 8 plain) configuration.password in
      let n = leb 16 (length plain) in
      let f = fits configuration header in
      let m = leb (16 + header.length) (length plain) in
      let both = (and-eq-true_iff (p && n && f) m).0 e in
      let inside = ((and-eq-true_iff (not (announces_none header)) (within configuration header)).0 ((and-eq-true_iff (p && n) f).0 both.0).1).1 in
      let there = leb-true (16 + header.length) (length plain) both.1 in
      let many : length (announced configuration plain) ≡ header.length =
      length-take-le header.length (drop 16 plain) (omega (arith, length-drop 16 plain)) in
      rw many inside

module _ (configuration : Configuration) (h t : List ℕ) (eight : length configuration.password ≡ 8) (more : length h ≡ 8) where
  pub header-bytes : take 8 (drop 8 (configuration.password ++ (h ++ t))) ≡ h
  header-bytes = rw (drop_at configuration.password (h ++ t) 8 eight) (take_at h t 8 more)

  behind : drop 16 (configuration.password ++ (h ++ t)) ≡ t
  behind =
      let password = configuration.password in
      rw (← append_assoc password h t)
      (drop_at (password ++ h) t 16 (length-append password h ∙ omega arith))

  length-there : length (configuration.password ++ (h ++ t)) ≡ 16 + length t
  length-there = length-append configuration.password (h ++ t) ∙ omega (arith, length-append h t)

  -- it begins with all that is asked for if the header fits and the bytes are there
  pub all_there : passes configuration.password configuration.password ≡ true
      → complete configuration (configuration.password ++ (h ++ t))
      ≡ (fits configuration (header_read configuration h) && leb (16 + (header_read configuration h).length) (16 + length t))
  unfolding complete
  all_there passed =
      rw (
        take_at configuration.password (h ++ t) 8 eight,
        header-bytes,
        length-there,
        passed,
        le-leb 16 (16 + length t) (omega arith),
      )

  pub announced-there : (x y : List ℕ) → t ≡ x ++ y → length x ≡ (header_read configuration h).length
      → announced configuration (configuration.password ++ (h ++ t)) ≡ x
  announced-there x y e count =
      rw (header-bytes, behind, e) (take_at x y (header_read configuration h).length count)
