-- From what the parts of a reading give to what the whole admits.
use Rattle.std.proofs.Common.{◌≡◌, ℕ, eqb, Bool, true, false, cond, List, Option, Some, None, Result, Ok, Err, refl, sym, ap, subst, ◌∙◌}
use Rattle.std.proofs.lemmas.Bool.{eqb-true}
use Rattle.std.proofs.lemmas.Option.{same_Some}
use Rattle.bim_model.specs.declared.element.Element.{Element}
use Rattle.book_turn.specs.declared.object.Stamp.{Stamp}
use Rattle.book_history.specs.declared.changes.Change.{Change}
use Rattle.book_history.specs.declared.changes.Change.TheVariants as change
use Rattle.book_history.specs.declared.changes.Entry.{Entry}
use Rattle.feed_frames.specs.declared.read_error.ReadError.{ReadError}
use Rattle.feed_frames.specs.declared.read_error.ReadError.TheVariants.{NotSpelled, Memory}
use Rattle.feed_frames.specs.SpelledEntries.{UploadsModel, UploadsModelOf}
use Rattle.feed_frames.specs.inner.Readers.{option_then, byte_at, Fails, Gives, Refuses, Admits}
use Rattle.feed_frames.specs.inner.EntryReaders.{named_elements_at, upload_at, other_kinds, all_kinds, change_at, head_at, body_at, entry_at, MakesUpload}
use Rattle.feed_frames.proofs.Formats.{then_some}
use Rattle.feed_frames.proofs.Changes.{no_model_is_read}

some_none : {A : Type 0} (x : A) (o : Option A) → o ≡ None → o ≡ Some x → ⊥
some_none x o none some = absurd (let e : None ≡ Some x = sym none ∙ some in cc)

-- what isn't there is refused
pub none_refused : {A : Type 0} (good : A → Type 0) (e : ReadError) (read : Option (A × List ℕ)) → Fails e read → Refuses good e read
none_refused good Memory read failed = tt
none_refused good NotSpelled read failed = λ x rest found meets. some_none (x, rest) read failed found

-- what is given is admitted, where it meets the condition
pub given_admitted : {A : Type 0} (good : A → Type 0) (r : Result A ReadError) (left : List ℕ) (read : Option (A × List ℕ)) → Gives r left read → ((x : A) (rest : List ℕ) → read ≡ Some (x, rest) → good x) → Admits good r left read
given_admitted good (Ok x) left read given meets = (given, meets x left given)
given_admitted good (Err e) left read given meets = none_refused good e read given

-- ---- uploads

-- the parts of an upload are its change
upload_is : (old name : List ℕ) (elements : List Element) (rest : List ℕ) → named_elements_at old ≡ Some ((name, elements), rest) → upload_at old ≡ Some (change.Upload name elements, rest)
unfolding upload_at
upload_is old name elements rest read =
    ap (λ o. option_then o (λ x. Some (change.Upload x.0.0 x.0.1, x.1))) read

pub upload_fails : (e : ReadError) (old : List ℕ) → Fails e (named_elements_at old) → Refuses UploadsModel e (upload_at old)
unfolding upload_at
upload_fails Memory old failed = tt
upload_fails NotSpelled old failed =
    none_refused UploadsModel NotSpelled (upload_at old)
    (ap (λ o. option_then o (λ x. Some (change.Upload x.0.0 x.0.1, x.1))) failed)

pub upload_admitted : (old : List ℕ) (parts : List ℕ × List Element) (rest : List ℕ) (r : Result Change ReadError) → named_elements_at old ≡ Some (parts, rest) → MakesUpload parts.0 parts.1 r → Admits UploadsModel r rest (upload_at old)
upload_admitted old parts rest (Ok c) read made = (
  upload_is old parts.0 parts.1 rest read ∙ ap (λ (x : Change). Some (x, rest)) (sym made.0),
  subst (λ (x : Change). UploadsModel x) (sym made.0) made.1,
)
upload_admitted old parts rest (Err Memory) read made = tt
upload_admitted old parts rest (Err NotSpelled) read made =
    λ x left found model.
    let same : change.Upload parts.0 parts.1 ≡ x =
    ap (λ (w : Change × List ℕ). w.0)
    (same_Some (change.Upload parts.0 parts.1, rest) (x, left) (sym (upload_is old parts.0 parts.1 rest read) ∙ found))
    in
    made (subst (λ (c : Change). UploadsModel c) (sym same) model)

-- ---- changes

pub change_fails : (e : ReadError) (old : List ℕ) → Fails e (byte_at old) → Refuses UploadsModel e (change_at old)
unfolding change_at
change_fails Memory old failed = tt
change_fails NotSpelled old failed =
    none_refused UploadsModel NotSpelled (change_at old)
    (ap (λ o. option_then o (λ b. all_kinds b.0 b.1)) failed)

pub change_admitted : (old : List ℕ) (kind : ℕ) (mid : List ℕ) (r : Result Change ReadError) (left : List ℕ) → byte_at old ≡ Some (kind, mid) → Admits UploadsModel r left (all_kinds kind mid) → Admits UploadsModel r left (change_at old)
unfolding change_at
change_admitted old kind mid r left read admits =
    let same : change_at old ≡ all_kinds kind mid = ap (λ o. option_then o (λ b. all_kinds b.0 b.1)) read in
    subst (λ (o : Option (Change × List ℕ)). Admits UploadsModel r left o) (sym same) admits

pub first_admitted : (kind : ℕ) (mid : List ℕ) (r : Result Change ReadError) (left : List ℕ) → kind ≡ 1 → Admits UploadsModel r left (upload_at mid) → Admits UploadsModel r left (all_kinds kind mid)
first_admitted kind mid r left one admits =
    subst (λ (k : ℕ). Admits UploadsModel r left (all_kinds k mid)) (sym one) admits

not_one : (k : ℕ) → (k ≡ 1 → ⊥) → eqb k 1 ≡ false
not_one k not =
    elim (eqb k 1) as (λ b. eqb k 1 ≡ b → b ≡ false) [
      | true ↦ λ e. absurd (not (eqb-true _ _ e))
      | false ↦ λ e. refl
    ] refl

pub other_admitted : (kind : ℕ) (mid : List ℕ) (r : Result Change ReadError) (left : List ℕ) → (kind ≡ 1 → ⊥) → Gives r left (other_kinds kind mid) → Admits UploadsModel r left (all_kinds kind mid)
other_admitted kind mid r left other given =
    let same : all_kinds kind mid ≡ other_kinds kind mid =
    ap (λ (b : Bool). cond b (upload_at mid) (other_kinds kind mid)) (not_one kind other)
    in
    subst (λ (o : Option (Change × List ℕ)). Admits UploadsModel r left o) (sym same)
    (given_admitted UploadsModel r left (other_kinds kind mid) given (no_model_is_read kind mid))

-- ---- entries

abbrev entry_by : (Stamp × ℕ) → Change → Entry
entry_by head c = record { stamp = head.0; project = head.1; change = c }

pub body_refused : (e : ReadError) (head : Stamp × ℕ) (mid : List ℕ) → Refuses UploadsModel e (change_at mid) → Refuses UploadsModelOf e (body_at head mid)
body_refused Memory head mid refused = tt
body_refused NotSpelled head mid refused =
    λ x rest found model.
    let a = then_some (change_at mid) (λ y. Some (entry_by head y.0, y.1)) (x, rest) found in
    let same = same_Some (entry_by head a.0.0, a.0.1) (x, rest) a.2 in
    refused a.0.0 a.0.1 a.1 (subst (λ (w : Entry × List ℕ). UploadsModelOf w.0) (sym same) model)

pub body_is : (head : Stamp × ℕ) (mid : List ℕ) (c : Change) (rest : List ℕ) → change_at mid ≡ Some (c, rest) → body_at head mid ≡ Some (entry_by head c, rest)
body_is head mid c rest read = ap (λ o. option_then o (λ y. Some (entry_by head y.0, y.1))) read

-- a head and a change, and their entry
abbrev pair_by : (Stamp × ℕ) → (Change × List ℕ) → Option (((Stamp × ℕ) × Change) × List ℕ)
pair_by head y = Some ((head, y.0), y.1)

abbrev entry_from : (((Stamp × ℕ) × Change) × List ℕ) → Option (Entry × List ℕ)
entry_from z = Some (entry_by z.0.0 z.0.1, z.1)

-- what is read behind a head
abbrev behind : Option ((Stamp × ℕ) × List ℕ) → Option (Entry × List ℕ)
behind o = option_then (option_then o (λ x. option_then (change_at x.1) (λ y. pair_by x.0 y))) entry_from

twice : (head : Stamp × ℕ) (o : Option (Change × List ℕ)) → option_then (option_then o (λ y. pair_by head y)) entry_from ≡ option_then o (λ y. Some (entry_by head y.0, y.1))
twice head None = refl
twice head (Some y) = refl

pub entry_fails : (e : ReadError) (old : List ℕ) → Fails e (head_at old) → Refuses UploadsModelOf e (entry_at old)
unfolding entry_at
entry_fails Memory old failed = tt
entry_fails NotSpelled old failed = none_refused UploadsModelOf NotSpelled (entry_at old) (ap behind failed)

pub entry_admitted : (old : List ℕ) (head : Stamp × ℕ) (mid : List ℕ) (r : Result Entry ReadError) (left : List ℕ) → head_at old ≡ Some (head, mid) → Admits UploadsModelOf r left (body_at head mid) → Admits UploadsModelOf r left (entry_at old)
unfolding entry_at
entry_admitted old head mid r left read admits =
    let same : entry_at old ≡ body_at head mid = ap behind read ∙ twice head (change_at mid) in
    subst (λ (o : Option (Entry × List ℕ)). Admits UploadsModelOf r left o) (sym same) admits
