-- The lines that the program prints (01, "The truck's capture file").
use Rattle.std.specs.Prelude.{ℕ, List, [], ◌∷◌, ◌++◌}
use Rattle.octets.specs.Bytes.{word_bytes}
use Rattle.session_state.specs.declared.Stage.{Stage}
use Rattle.session_answers.specs.Answers.{refusal_number}
use Rattle.replay_lines.specs.Digits.{ascii, decimal, hex_of}

-- "the echoed data in capital hex or "-""
abbrev pub echo_text : List ℕ → List ℕ
echo_text [] = ascii "-"
echo_text (byte ∷ bytes) = hex_of (byte ∷ bytes)

-- "for each record its number from 1, the answer number and the echoed data .. each line with a line feed"
abbrev pub record_line : ℕ → ℕ → List ℕ → List ℕ
record_line ordinal answer echo =
    decimal ordinal ++ ascii " " ++ decimal answer ++ ascii " " ++ echo_text echo ++ ascii "\n"

-- "Last line: end waiting, end password, end header, end data, end stopped N, or end jump and 8 hex digits."
abbrev pub last_line : Stage → List ℕ
last_line Stage.Waiting = ascii "end waiting\n"
last_line Stage.Password = ascii "end password\n"
last_line (Stage.Header port) = ascii "end header\n"
last_line (Stage.Data port load) = ascii "end data\n"
last_line (Stage.Stopped refusal) = ascii "end stopped " ++ decimal (refusal_number refusal) ++ ascii "\n"
last_line (Stage.Jumped jump) = ascii "end jump " ++ hex_of (word_bytes jump.start.0) ++ ascii "\n"
