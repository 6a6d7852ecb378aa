-- What is read of a source up to its end, or up to one more than an upload may have.
use Rattle.std.proofs.Common.{◌≡◌, ◌+◌, ◌≤◌, ℕ, List, [], ◌++◌, length, take, Option, Some, None, sym, ◌∙◌, ap, subst, append-nil}
use Rattle.std.proofs.Math.Seq.{take-append_seam}
use Rattle.std.proofs.lemmas.List.{take_all}
use Rattle.std.specs.Io.KnownBytes.{IsAtEnd}
use Rattle.bim_model.specs.declared.limits.TheConstants.{MOST_UPLOAD}
use Rattle.bim_io.specs.Causes.{Loses}
use Rattle.bim_files.specs.Files.{IsFront, judged}

taken : (bytes rest : List ℕ) → length bytes ≤ MOST_UPLOAD + 1 → rest ≡ [] → bytes ≡ judged (bytes ++ rest)
taken bytes rest few empty = rw empty (sym (ap judged (append-nil bytes) ∙ take_all (MOST_UPLOAD + 1) bytes few))

-- where nothing is left, all was read
front_at_end : (left now : Option (List ℕ)) (bytes : List ℕ) → Loses left now bytes → IsAtEnd now → length bytes ≤ MOST_UPLOAD + 1 → IsFront left bytes
front_at_end None now bytes p end few = tt
front_at_end (Some xs) None bytes p end few = cc
front_at_end (Some xs) (Some rest) bytes p end few =
    let whole : xs ≡ bytes ++ rest = cc in
    taken bytes rest few end ∙ ap judged (sym whole)

-- nothing was left before a read that found nothing
at_end_before : (before now : Option (List ℕ)) → Loses before now [] → IsAtEnd now → IsAtEnd before
at_end_before None now p end = tt
at_end_before (Some xs) None p end = cc
at_end_before (Some xs) (Some zs) p end =
    let same : xs ≡ zs = cc in
    same ∙ end

-- where a read found nothing, all was read before
pub front_ended : (left then now : Option (List ℕ)) (before after : List ℕ) → Loses left then before → after ≡ before → Loses then now [] → IsAtEnd now
    → length before ≤ MOST_UPLOAD + 1 → IsFront left after
front_ended left then now before after p same q end few =
    subst (λ bytes. IsFront left bytes) (sym same) (front_at_end left then before p (at_end_before then now q end) few)

seam : (bytes rest : List ℕ) → length bytes ≡ MOST_UPLOAD + 1 → bytes ≡ judged (bytes ++ rest)
seam bytes rest full = sym (ap (λ n. take n (bytes ++ rest)) (sym full) ∙ take-append_seam bytes rest)

-- where one more than an upload was read, that is judged
pub front_full : (left now : Option (List ℕ)) (bytes : List ℕ) → Loses left now bytes → length bytes ≡ MOST_UPLOAD + 1 → IsFront left bytes
front_full None now bytes p full = tt
front_full (Some xs) None bytes p full = cc
front_full (Some xs) (Some rest) bytes p full =
    let whole : xs ≡ bytes ++ rest = cc in
    seam bytes rest full ∙ ap judged (sym whole)
