-- Text put behind what an output holds.
use Rattle.std.specs.Prelude.{ℕ, ◌+◌, List, cond, length, leb}
use Rattle.buffers.specs.Write.{over_from}

-- an output, to which text is appended: its bytes, and how many of them are used
pub record Output : Type 0 where
  pub bytes : List ℕ
  pub used : ℕ

abbrev pub as_output : List ℕ → ℕ → Output
as_output bytes used = record { bytes = bytes; used = used }

-- if not all of it has room, nothing is written
unfoldable pub appended : Output → List ℕ → Output
appended out text =
    cond (leb (out.used + length text) (length out.bytes))
    (record {
      bytes = over_from out.used text out.bytes;
      used = out.used + length text;
    })
    out
