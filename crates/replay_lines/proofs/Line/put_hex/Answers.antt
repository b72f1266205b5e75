-- The two digits of one byte more.
use Rattle.std.proofs.Common.{◌≡◌, ℕ, ◌+◌, ◌-◌, ◌≤◌, List, ◌∷◌, length, drop, slice_set, arith, rules}
use Rattle.std.proofs.lemmas.Grind.{common_steps}
use Rattle.std.proofs.lemmas.List.{drop-set}
use Rattle.replay_lines.proofs.Laws.{hex_room, hex_more}
use Rattle.replay_lines.proofs.Line.put_hex.Goals as goal

two_put : (line : List ℕ) (start next high low : ℕ) → start + 2 ≡ next → next ≤ length line
    → drop start (slice_set (slice_set line (start + 1) low) start high) ≡ high ∷ low ∷ drop next line
two_put line start next high low e h =
    grind (arith, common_steps, drop-set (slice_set line (start + 1) low) start high, drop-set line (start + 1) low)

pub loop-byte-preserved : goal.loop-byte-preserved
loop-byte-preserved c =
    let l = c.loop-byte in
    let room = hex_room _ _ c.in-Some.ensures.steps l.invariant.spelling c.requires in
    let start = l.start - 2 in
    record {
      spelling =
          rw (two_put l.self-inside.bytes start l.start c.hex_digit-in-loop-byte.result c.hex_digit.result (search rules) (search rules), c.hex_digit.ensures, c.hex_digit-in-loop-byte.ensures)
          (hex_more _ _ c.in-Some.ensures.steps l.invariant.spelling);
      within = omega arith;
      long = grind (arith, common_steps);
    }
