-- Lists of calls for demand 3: by CAN one that jumps, by serial one that a faulty byte ends and one that jumps, each with both ports, faulty bytes and a frame
-- refused for its form; faulty bytes in the password and in the header; and a list with no opening.
use Rattle.std.specs.Prelude.{ℕ, List, [], ◌∷◌, ◌++◌, map, Bool, true, false, take, drop, replicate}
use Rattle.std.proofs.Math.Option.{none}
use Rattle.boot_table.specs.Table.{public_password}
use Rattle.session_state.specs.declared.Refusal.{Refusal}
use Rattle.session_state.specs.declared.Session.{Session}
use Rattle.session_state.specs.declared.Stage.{Stage}
use Rattle.session_state.specs.Accepted.{accepted_vle}
use Rattle.session_items.specs.declared.Source.{Source}
use Rattle.session_items.specs.Items.{Item}
use Rattle.session_answers.specs.declared.Outcome.{Outcome}
use Rattle.session_answers.specs.Answers.{outcome_number}
use Rattle.session_fresh.specs.Fresh.{fresh_session}
use Rattle.session.specs.Running.{Call, Run, ran}
use Rattle.session_merging.specs.Merging.{picked_port, stream_of, plain_of, complete, jumps_in}
use Rattle.cases_rules.specs.Trials.{Case, trial, public, filled_with}

-- a CAN frame, and a clean and a faulty serial byte
abbrev frame : ℕ → List ℕ → Item
frame identifier bytes = Item.Of (Source.Can identifier) bytes

abbrev clean : ℕ → Item
clean byte = Item.Of (Source.Serial 0) (byte ∷ [])

abbrev faulty : ℕ → Item
faulty byte = Item.Of (Source.Serial 2) (byte ∷ [])

abbrev run_of : List Item → Run
run_of items = ran (fresh_session public) (filled_with 0xEE) items

abbrev numbers_of : Run → List ℕ
numbers_of run = map (λ (call : Call). outcome_number call.answer.outcome) run.calls

-- each echo: its identifier, and the bytes sent
abbrev echoes_of : Run → List (List ℕ)
echoes_of run =
    map (λ (call : Call). call.answer.echo.identifier ∷ take call.answer.echo.length call.answer.echo.bytes) run.calls

-- a missing echo
abbrev nothing : List ℕ
nothing = 0 ∷ []

-- start 0x4000000B, VLE, 3 bytes
abbrev vle_header : List ℕ
vle_header = 0x40 ∷ 0x00 ∷ 0x00 ∷ 0x0B ∷ 0x80 ∷ 0x00 ∷ 0x00 ∷ 0x03 ∷ []

-- by CAN, with that header
abbrev jumping : List Item
jumping =
    faulty 0xFE
    ∷ frame 0x800 (0x01 ∷ [])
    ∷ frame 0x012 (replicate 8 0x40)
    ∷ frame 0x011 public_password
    ∷ clean 0xFE
    ∷ frame 0x011 public_password
    ∷ frame 0x012 vle_header
    ∷ frame 0x013 (0x11 ∷ 0x22 ∷ 0x33 ∷ 0x44 ∷ [])
    ∷ frame 0x013 (0xAA ∷ 0xBB ∷ [])
    ∷ faulty 0xED
    ∷ frame 0x013 (replicate 9 0x55)
    ∷ frame 0x013 (0xCC ∷ [])
    ∷ frame 0x013 (0xDD ∷ [])
    ∷ []

-- bytes as clean items
abbrev clean_all : List ℕ → List Item
clean_all bytes = map clean bytes

-- start 0x40000004, 2 bytes, with VLE (0x80) or without (0x00)
abbrev short_header : ℕ → List ℕ
short_header flag = 0x40 ∷ 0x00 ∷ 0x00 ∷ 0x04 ∷ flag ∷ 0x00 ∷ 0x00 ∷ 0x02 ∷ []

-- the rest of the public password, and that header
abbrev opened : ℕ → List Item
opened flag = clean_all (0xED ∷ 0xFA ∷ 0xCE ∷ 0xCA ∷ 0xFE ∷ 0xBE ∷ 0xEF ∷ []) ++ clean_all (short_header flag)

-- by serial, up to the first of the 2 bytes announced
abbrev begun : List Item
begun =
    (faulty 0xFE ∷ frame 0x013 (0x77 ∷ []) ∷ clean 0xFE ∷ frame 0x011 public_password ∷ [])
    ++ opened 0x80
    ++ (clean 0xAA ∷ frame 0x011 (replicate 9 0) ∷ [])

-- the second comes faulty, then clean
abbrev lacking : List Item
lacking = begun ++ (faulty 0xBB ∷ clean 0xBB ∷ faulty 0xCC ∷ [])

-- it comes clean, and another byte faulty
abbrev finished : List Item
finished = begun ++ (clean 0xBB ∷ faulty 0xCC ∷ [])

-- a faulty byte behind so many clean ones
abbrev cut_behind : ℕ → ℕ → List Item
cut_behind flag count = take count (clean 0xFE ∷ opened flag) ++ (faulty 0xED ∷ clean 0xED ∷ [])

-- a password that does not pass
abbrev wrong : List Item
wrong = frame 0x011 (replicate 8 0x11) ∷ []

-- the VLE bit of the header accepted
abbrev vle_after : List Item → Bool
vle_after items = accepted_vle (run_of items).session.stage

-- no opening: a faulty byte, and frames that open nothing
abbrev silent : List Item
silent = faulty 0xFE ∷ frame 0x012 vle_header ∷ frame 0x011 (0xFE ∷ []) ∷ []

-- a session that a faulty byte stopped: nothing is held, and the VLE bit is that of the header accepted
abbrev stopped_with : Bool → Session
stopped_with vle =
    record { configuration = public; stage = Stage.Stopped (Refusal.FaultyByte vle); held = replicate 8 0; count = 0 }

unfoldable pub list_table : List Case
list_table =
    trial (numbers_of (run_of jumping)) (1 ∷ 6 ∷ 1 ∷ 0 ∷ 1 ∷ 1 ∷ 0 ∷ 1 ∷ 0 ∷ 1 ∷ 6 ∷ 5 ∷ 1 ∷ [])
    ∷ trial (jumps_in (run_of jumping).calls) (Outcome.Jumps (record { start = record { 0 = 0x40000008 }; vle = true }) ∷ [])
    ∷ trial (echoes_of (run_of jumping))
    (nothing
    ∷ nothing
    ∷ nothing
    ∷ (0x001 ∷ public_password)
    ∷ nothing
    ∷ nothing
    ∷ (0x002 ∷ vle_header)
    ∷ nothing
    ∷ (0x003 ∷ 0xAA ∷ 0xBB ∷ [])
    ∷ nothing
    ∷ nothing
    ∷ (0x003 ∷ 0xCC ∷ [])
    ∷ nothing
    ∷ [])
    ∷ trial (stream_of jumping)
    (frame 0x012 (replicate 8 0x40)
    ∷ frame 0x011 public_password
    ∷ frame 0x011 public_password
    ∷ frame 0x012 vle_header
    ∷ frame 0x013 (0x11 ∷ 0x22 ∷ 0x33 ∷ 0x44 ∷ [])
    ∷ frame 0x013 (0xAA ∷ 0xBB ∷ [])
    ∷ frame 0x013 (0xCC ∷ [])
    ∷ frame 0x013 (0xDD ∷ [])
    ∷ [])
    ∷ trial (complete public (plain_of public jumping)) true
    ∷ trial (run_of jumping).sram (replicate 8 0xEE ++ (0xAA ∷ 0xBB ∷ 0xCC ∷ []) ++ replicate 65525 0xEE)
    -- nothing is stored with the header
    ∷ trial (run_of (take 7 jumping)).sram (filled_with 0xEE)
    -- "a faulty byte after the first clean one ends the plain list" (02, E2)
    ∷ trial (numbers_of (run_of lacking)) ((1 ∷ 1 ∷ 0 ∷ 1 ∷ []) ++ replicate 16 0 ++ (6 ∷ 12 ∷ 1 ∷ 1 ∷ []))
    -- serial echoes the byte under no identifier, and no faulty one
    ∷ trial (echoes_of (run_of (take 5 lacking))) (nothing ∷ nothing ∷ (0 ∷ 0xFE ∷ []) ∷ nothing ∷ (0 ∷ 0xED ∷ []) ∷ [])
    ∷ trial (drop 19 (echoes_of (run_of lacking))) ((0 ∷ 0xAA ∷ []) ∷ nothing ∷ nothing ∷ nothing ∷ nothing ∷ [])
    ∷ trial (jumps_in (run_of lacking).calls) []
    ∷ trial (plain_of public lacking) (public_password ++ short_header 0x80 ++ (0xAA ∷ []))
    ∷ trial (complete public (plain_of public lacking)) false
    ∷ trial (run_of lacking).session (stopped_with true)
    ∷ trial (run_of lacking).sram (replicate 4 0xEE ++ (0xAA ∷ []) ++ replicate 65531 0xEE)
    ∷ trial (stream_of lacking)
    ((faulty 0xFE ∷ clean 0xFE ∷ [])
    ++ opened 0x80
    ++ (clean 0xAA ∷ faulty 0xBB ∷ clean 0xBB ∷ faulty 0xCC ∷ []))
    ∷ trial (jumps_in (run_of finished).calls) (Outcome.Jumps (record { start = record { 0 = 0x40000004 }; vle = true }) ∷ [])
    ∷ trial (numbers_of (run_of finished)) ((1 ∷ 1 ∷ 0 ∷ 1 ∷ []) ++ replicate 16 0 ++ (6 ∷ 5 ∷ 1 ∷ []))
    ∷ trial (plain_of public finished) (public_password ++ short_header 0x80 ++ (0xAA ∷ 0xBB ∷ []))
    ∷ trial (run_of finished).sram (replicate 4 0xEE ++ (0xAA ∷ 0xBB ∷ []) ++ replicate 65530 0xEE)
    -- in the password, before and in the header, of which nothing is accepted yet, and in the data
    ∷ trial (numbers_of (run_of (cut_behind 0x80 7))) (replicate 7 0 ++ (12 ∷ 1 ∷ []))
    ∷ trial (run_of (cut_behind 0x80 7)).session (stopped_with false)
    ∷ trial (numbers_of (run_of (cut_behind 0x80 8))) (replicate 8 0 ++ (12 ∷ 1 ∷ []))
    ∷ trial (run_of (cut_behind 0x80 8)).session (stopped_with false)
    ∷ trial (numbers_of (run_of (cut_behind 0x80 15))) (replicate 15 0 ++ (12 ∷ 1 ∷ []))
    ∷ trial (run_of (cut_behind 0x80 15)).session (stopped_with false)
    ∷ trial (run_of (cut_behind 0x80 16)).session (stopped_with true)
    ∷ trial (run_of (cut_behind 0x00 16)).session (stopped_with false)
    -- "where no header was accepted it is clear"; in the data stage, ended and jumped it is the header's
    ∷ trial (map vle_after (silent ∷ wrong ∷ cut_behind 0x80 15 ∷ cut_behind 0x00 16 ∷ [])) (replicate 4 false)
    ∷ trial (map vle_after (begun ∷ lacking ∷ finished ∷ jumping ∷ [])) (replicate 4 true)
    ∷ trial (numbers_of (run_of silent)) (1 ∷ 1 ∷ 1 ∷ [])
    ∷ trial (stream_of silent) []
    ∷ trial (picked_port silent) none
    ∷ []
