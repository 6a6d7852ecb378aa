-- What the status of a command says of files and of the sink.
use Rattle.std.proofs.Common.{◌≡◌, ℕ, List, Bool, true, false, Ok, Option, Some, None, inr, refl, sym, subst, arith}
use Rattle.bim_io.specs.Causes.{Rose, ComesOfFault}
use Rattle.bim_io.specs.StreamViews.{SinkSeen}
use Rattle.bim_files.specs.Files.{FilesSeen}
use Rattle.bim_model.specs.Snapshots.{Version}
use Rattle.model_generator.specs.GeneratedFiles.{generated}
use Rattle.batch_commands.specs.declared.check_words.CheckWords.{CheckWords}
use Rattle.batch_commands.specs.declared.generate_words.GenerateWords.{GenerateWords}
use Rattle.batch_commands.specs.declared.refusal.Refusal.{Refusal}
use Rattle.batch_commands.specs.declared.refusal.JudgeError.{JudgeError}
use Rattle.batch_commands.specs.declared.refusal.JudgeError.TheVariants.{Refused, File, Memory}
use Rattle.batch_commands.specs.Judging.{Ends, Finds}
use Rattle.batch_commands.specs.Reports.{found_bytes, refusal_line}
use Rattle.batch_commands.specs.PrintedOutput.{Prints}
use Rattle.batch_commands.specs.BatchCommands.{AnswersError, Checks, Generates, GeneratesAs, GeneratesBy, IsSummary}
use Rattle.batch_commands.proofs.Blocks.{no_fault, prints_not_four, prints_rose}

-- ---- check

pub found_read : (f f' : FilesSeen) (s s' : SinkSeen) (said : CheckWords) (version : Version) (status : ℕ) → Finds f f' said (Ok version) → Prints s s' (found_bytes version) 0 status
    → ComesOfFault f.faults f'.faults (status ≡ 4)
found_read f f' s s' said version status finds prints =
    no_fault f.faults f'.faults status finds.0.1 (prints_not_four s s' (found_bytes version) 0 status prints (λ e. omega (arith, e)))

pub found_write : (s s' : SinkSeen) (version : Version) (status : ℕ) → Prints s s' (found_bytes version) 0 status → status ≡ 5 → Rose s.faults s'.faults
found_write s s' version status prints = prints_rose s s' (found_bytes version) 0 status prints (λ e. omega (arith, e))

pub error_read : (f f' : FilesSeen) (s s' : SinkSeen) (Is : Refusal → Type 0) (e : JudgeError) (status : ℕ) → Ends f f' Is e → AnswersError s s' e status
    → ComesOfFault f.faults f'.faults (status ≡ 4)
error_read f f' s s' Is (Refused why) status ends answers =
    no_fault f.faults f'.faults status ends.0.1 (prints_not_four s s' (refusal_line why) 3 status answers (λ e. omega (arith, e)))
error_read f f' s s' Is File status ends answers = record { only = λ four. ends.1; always = λ less. answers.0 }
error_read f f' s s' Is Memory status ends answers =
    let six = answers.status_is in no_fault f.faults f'.faults status ends.1 (λ four. omega (arith, six, four))

pub error_write : (s s' : SinkSeen) (e : JudgeError) (status : ℕ) → AnswersError s s' e status → status ≡ 5 → Rose s.faults s'.faults
error_write s s' (Refused why) status answers five = prints_rose s s' (refusal_line why) 3 status answers (λ e. omega (arith, e)) five
error_write s s' File status answers five = let four = answers.0 in absurd (omega (arith, four, five))
error_write s s' Memory status answers five = let six = answers.status_is in absurd (omega (arith, six, five))

-- memory runs out for the words
pub check_wanting : (said : Option CheckWords) (files : FilesSeen) (sink : SinkSeen) → Checks said files files sink sink 6
check_wanting None files sink = inr (refl, record { status_is = refl; same = refl })
check_wanting (Some said) files sink = inr (refl, record { status_is = refl; same = refl })

-- ---- generate

-- the file is printed
pub generates_file : (said : GenerateWords) (s s' : SinkSeen) (status : ℕ) → said.file ≡ true → Prints s s' (generated said.number said.count) 0 status → GeneratesBy said s s' status
generates_file said s s' status is prints = subst (λ (b : Bool). GeneratesAs b said.number said.count s s' status) (sym is) prints

-- its numbers are
pub generates_numbers : (said : GenerateWords) (s s' : SinkSeen) (text lent : List ℕ) (status : ℕ) → said.file ≡ false → IsSummary said.number said.count text → lent ≡ text
    → Prints s s' lent 0 status → GeneratesBy said s s' status
generates_numbers said s s' text lent status is summary same prints =
    subst (λ (b : Bool). GeneratesAs b said.number said.count s s' status) (sym is) (text, summary, subst (λ bytes. Prints s s' bytes 0 status) same prints)

pub printed_write : (s s' : SinkSeen) (bytes : List ℕ) (status : ℕ) → Prints s s' bytes 0 status → status ≡ 5 → Rose s.faults s'.faults
printed_write s s' bytes status prints = prints_rose s s' bytes 0 status prints (λ e. omega (arith, e))

pub generate_wanting : (said : Option GenerateWords) (sink : SinkSeen) → Generates said sink sink 6
generate_wanting None sink = inr (record { status_is = refl; same = refl })
generate_wanting (Some said) sink = inr (record { status_is = refl; same = refl })

-- ---- other statuses

pub unread_status : (n status known : ℕ) → status ≡ known → (known ≡ 4 → ⊥) → ComesOfFault n n (status ≡ 4)
unread_status n status known is other = no_fault n n status refl (λ four. other (omega (arith, is, four)))

pub unwritten_status : (n n' status known : ℕ) → status ≡ known → (known ≡ 5 → ⊥) → status ≡ 5 → Rose n n'
unwritten_status n n' status known is other five = absurd (other (omega (arith, is, five)))
