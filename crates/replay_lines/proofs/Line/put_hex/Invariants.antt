-- The digits that are left go in front of those that are put.
use Rattle.std.proofs.Common.{◌≤◌, ◌≡◌, length, drop}
use Rattle.replay_lines.specs.Digits.{hex_of}
use Rattle.replay_lines.proofs.Laws.{Spelling}
use Rattle.replay_lines.proofs.Line.put_hex.Given as goal

abbrev pub invariant-loop-byte : goal.invariant-loop-byte
invariant-loop-byte l = record {
  spelling : Spelling hex_of l.bytes l.fn.self l.byte-iterator.iter.rest.now (drop l.start l.self-inside.bytes);
  within : l.start ≤ 64;
  long : length l.self-inside.bytes ≡ 64;
}
