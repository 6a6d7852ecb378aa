-- What is read of a payload is the entry that it spells.
use Rattle.std.proofs.Common.{◌≡◌, ℕ, List, [], ◌++◌, length, Some, Err, sym, ap, subst, ◌∙◌}
use Rattle.std.proofs.lemmas.List.{append-nil}
use Rattle.std.proofs.lemmas.Option.{same_Some}
use Rattle.book_history.specs.declared.changes.Entry.{Entry}
use Rattle.feed_frames.specs.declared.read_error.ReadError.{ReadError}
use Rattle.feed_frames.specs.declared.read_error.ReadError.TheVariants.{NotSpelled, Memory}
use Rattle.feed_frames.specs.EntryBytes.{payload}
use Rattle.feed_frames.specs.SpelledEntries.{IsLong, UploadsModelOf, IsEntry}
use Rattle.feed_frames.specs.inner.Readers.{Refuses, Lacks}
use Rattle.feed_frames.specs.inner.EntryReaders.{entry_at}
use Rattle.feed_frames.proofs.Formats.{IsBytes}
use Rattle.feed_frames.proofs.Changes.{entry_format}

-- what was read of all the bytes
pub found : (bytes : List ℕ) (e : Entry) (rest : List ℕ) → IsBytes bytes → IsLong (length bytes) → entry_at bytes ≡ Some (e, rest) → rest ≡ [] → UploadsModelOf e → IsEntry e × (payload e ≡ bytes)
found bytes e rest fits short read empty models =
    let t = entry_format.takes bytes e rest fits read in
    let whole : bytes ≡ payload e =
    t.0.parts ∙ ap (λ (l : List ℕ). payload e ++ l) empty ∙ append-nil (payload e)
    in (
      record {
        fits = t.1;
        models = models;
        counted = subst (λ (l : List ℕ). IsLong (length l)) whole short;
      },
      sym whole,
    )

-- what an entry spells is read
read_again : (bytes : List ℕ) (e : Entry) → IsEntry e → payload e ≡ bytes → entry_at bytes ≡ Some (e, [])
read_again bytes e good same =
    ap entry_at (sym same ∙ sym (append-nil (payload e))) ∙ entry_format.again e [] good.fits

-- what was refused spells none
pub refused : (bytes : List ℕ) → Refuses UploadsModelOf NotSpelled (entry_at bytes) → (e : Entry) → IsEntry e → payload e ≡ bytes → ⊥
refused bytes none e good same = none e [] (read_again bytes e good same) good.models

-- nor do bytes that have more than an entry
pub longer : (bytes : List ℕ) (x : Entry) (rest : List ℕ) → entry_at bytes ≡ Some (x, rest) → (rest ≡ [] → ⊥) → (e : Entry) → IsEntry e → payload e ≡ bytes → ⊥
longer bytes x rest read more e good same =
    more (ap (λ (w : Entry × List ℕ). w.1) (same_Some (x, rest) (e, []) (sym read ∙ read_again bytes e good same)))

-- a call that refused the bytes
pub lacks_entry : (e : ReadError) (bytes : List ℕ) → Refuses UploadsModelOf e (entry_at bytes) → Lacks {X = Entry} (Err e) ((x : Entry) → IsEntry x → payload x ≡ bytes → ⊥)
lacks_entry Memory bytes refuses = tt
lacks_entry NotSpelled bytes refuses = refused bytes refuses
