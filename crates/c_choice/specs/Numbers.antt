-- The numbers that stand for the boot choice in the C interface (include/boot_assist.h).
use Rattle.std.specs.Prelude.{ℕ, List, [], ◌∷◌, cond, eqb}
use Rattle.boot.specs.declared.Boot.{Boot}
use Rattle.boot.specs.declared.Mode.{Mode}
use Rattle.c_answer.specs.Writing.{bit, entered_number, entered_of}

-- how the head boots, as a number from 0 to 4
abbrev pub mode_number : Mode → ℕ
mode_number Mode.Internal = 0
mode_number Mode.External = 1
mode_number (Mode.Serial entered) = entered_number entered

-- and back: for a number from 0 to 4 the mode that has it (`c_choice::mode_number` promises that)
abbrev pub mode_of : ℕ → Mode
mode_of number =
    cond (eqb number 0) Mode.Internal
    (cond (eqb number 1) Mode.External
    (Mode.Serial (entered_of number)))

-- the eight numbers of a choice
abbrev pub boot_numbers : Boot → List ℕ
boot_numbers boot =
    mode_number boot.mode
    ∷ boot.place
    ∷ boot.examined
    ∷ boot.jump
    ∷ bit boot.watchdog
    ∷ bit boot.bus16
    ∷ bit boot.flash
    ∷ bit boot.nexus
    ∷ []
