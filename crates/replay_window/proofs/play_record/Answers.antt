-- A record that is answered, the end mark, and a bad record.
use Rattle.std.proofs.Common.{arith}
use Rattle.replay_window.proofs.Laws.{record_within, record_played, record_short, end_played, end_short, bad_played, bad_short}
use Rattle.replay_window.proofs.play_record.Goals as goal

pub overflow_add-turn : goal.overflow_add-turn
overflow_add-turn c = omega (arith, record_within _ _ _ _ c.in-Ok-Some.field-0-0 (rw (c.in-Ok-Some.is, c.in-Ok-Some.field-0-is) at c.handle.ensures), c.requires.place)

pub returns-in-Ok-Some-clause-played : goal.returns-in-Ok-Some-clause-played
returns-in-Ok-Some-clause-played c =
    let line = rw (c.from-number.ensures, c.echo_bytes-echo.ensures.value, c.echo_bytes-echo.ensures.short) at c.record_line.ensures in
    record_played _ _ _ _ _ _ _ c.in-Ok-Some.field-0-0 (rw (c.in-Ok-Some.is, c.in-Ok-Some.field-0-is) at c.handle.ensures) _ line

pub returns-in-Ok-Some-clause-short : goal.returns-in-Ok-Some-clause-short
returns-in-Ok-Some-clause-short c =
    record_short _ _ _ c.in-Ok-Some.field-0-0 (rw (c.in-Ok-Some.is, c.in-Ok-Some.field-0-is) at c.handle.ensures) c.echo_bytes-echo.ensures.short

pub returns-in-Ok-None-clause-played : goal.returns-in-Ok-None-clause-played
returns-in-Ok-None-clause-played c =
    end_played _ _ _ _ _ _ _ (rw (c.in-Ok-None.is, c.in-Ok-None.field-0-is) at c.handle.ensures) _ c.end_text.ensures

pub returns-in-Ok-None-clause-short : goal.returns-in-Ok-None-clause-short
returns-in-Ok-None-clause-short c =
    end_short _ _ _ (rw (c.in-Ok-None.is, c.in-Ok-None.field-0-is) at c.handle.ensures)

pub returns-in-Err-clause-played : goal.returns-in-Err-clause-played
returns-in-Err-clause-played c =
    bad_played _ _ _ _ _ _ _ (rw c.in-Err.is at c.handle.ensures) _ _ c.requires.room c.record_line-used.ensures c.end_text-in-Err.ensures

pub returns-in-Err-clause-short : goal.returns-in-Err-clause-short
returns-in-Err-clause-short c =
    bad_short _ _ _ (rw c.in-Err.is at c.handle.ensures)
