-- A session's bytes and numbers are put in their places, and what they are reads as the session again.
use Rattle.std.proofs.Common.{rules}
use Rattle.c_session.specs.Writing.{session_put}
use Rattle.c_session.proofs.Back.{Stored, reads_back}
use Rattle.c_session.proofs.put_session.Goals as goal

pub returns : goal.returns
unfolding session_put
returns c =
    let session = c.args.session in
    let stored : Stored session = record { password-eight = search rules; held_eight = search rules; count_byte = search rules } in
    record {
      equation = rw (c.put.ensures, c.session_bytes.ensures, c.session_numbers.ensures);
      reads_back = reads_back session stored;
    }
