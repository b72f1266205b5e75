-- The bytes and numbers of a sender, read again.
use mathlib.Core.Path.{◌≡◌, refl, ap, ◌∙◌}
use mathlib.Core.Bool.{Bool, true, false}
use lib.ListN.{length}
use Rattle.session_state.specs.declared.Port.{Port}
use Rattle.buffers.proofs.Eight.{eight-whole}
use Rattle.c_answer.specs.Writing.{Flat, bit}
use Rattle.c_session.specs.Writing.{port_number}
use Rattle.sender_load.specs.declared.Sender.{Sender}
use Rattle.sender.specs.Calls.{head_with}
use Rattle.c_sender.specs.Numbers.{SenderEncoding, sender_flat, flag_of, port_for, sender_read}

flag_back : (flag : Bool) → flag_of (bit flag) ≡ flag
flag_back true = refl
flag_back false = refl

port_back : (port : Port) → port_for (port_number port) ≡ port
port_back Port.Can = refl
port_back Port.Serial = refl

sender_back : (s : Sender) → length s.configuration.password ≡ 8
    → s.configuration ≡ head_with s.configuration.password
    → sender_read (sender_flat s) ≡ s
sender_back s eight known =
    rw (flag_back s.going, flag_back s.vle, flag_back s.out, port_back s.port, eight-whole s.configuration.password eight, ← known)

pub sender_encoding : (s : Sender) {r : Flat} → r ≡ sender_flat s → length s.configuration.password ≡ 8 → SenderEncoding s r
sender_encoding s e eight = record { equation = e; reads_back = λ known. ap sender_read e ∙ sender_back s eight known }
