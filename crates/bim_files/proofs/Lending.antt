-- What lending a name and taking it back does to what is told.
use Rattle.std.proofs.Common.{◌≡◌, ◌+◌, ◌≤◌, ◌<◌, ℕ, zero, suc, List, [], ◌∷◌, ◌++◌, length, map, take, All, Bool, true, false, get_or, Option, Some, Result, Ok, Err, IfOk, is_ok, if◌then◌else◌, refl, sym, ◌∙◌, ap, cond, subst, add-one, arith}
use Rattle.std.proofs.Math.Seq.{take-suc}
use Rattle.std.proofs.lemmas.List.Elements.{All-push}
use Rattle.std.proofs.lemmas.List.Sums.{sum_by_push, sum_by-swap_remove}
use Rattle.std.proofs.lemmas.Slice.Eq.{bytes_eq-Decides}
use Rattle.std.specs.List.{swap_remove}
use Rattle.std.specs.Str.{bytes_eq}
use Rattle.bim_io.specs.StreamViews.{SourceSeen}
use Rattle.bim_files.specs.declared.loans.MemFile.{MemFile}
use Rattle.std.specs.Result.{result_ok}
use Rattle.bim_files.specs.Files.{LendsTold, content_of, once}
use Rattle.bim_files.specs.MemoryFiles.{IsFirst, LentState, StandsAt, file_seen, fresh_source, has_name, lent_seen, lent_times, told_of}

-- ---- files by their names

-- what the first file of a name holds is what the name holds
content_at : (files : List MemFile) (name : List ℕ) (place : ℕ) (d : MemFile) → place < length files
    → All (λ (file : MemFile). has_name name file ≡ false) (take place files) → has_name name (get_or files place d) ≡ true
    → content_of (map file_seen files) name ≡ (get_or files place d).contents
content_at [] name place d lt before here = absurd (omega (arith, lt))
content_at (f ∷ fs) name zero d lt before here = rw here refl
content_at (f ∷ fs) name (suc p) d lt before here =
    rw (before 0 f (omega arith)) (content_at fs name p d (omega (arith, lt)) (λ k e more. before (suc k) e (omega (arith, more))) here)

pub content_first : (files : List MemFile) (name : List ℕ) (place : ℕ) (d : MemFile) → IsFirst files name place
    → (get_or files place d).contents ≡ content_of (map file_seen files) name
content_first files name place d is = sym (content_at files name place d is.within is.before (is.here d))

-- a name of no file holds nothing
pub content_none : (files : List MemFile) (name : List ℕ) → All (λ (file : MemFile). has_name name file ≡ false) files → [] ≡ content_of (map file_seen files) name
content_none [] name none = refl
content_none (f ∷ fs) name none =
    rw (none 0 f (omega arith)) (content_none fs name (λ k e more. none (suc k) e (omega (arith, more))))

-- one more file hasn't the name
pub none_more : (files : List MemFile) (name : List ℕ) (place : ℕ) (file : MemFile) → place < length files → file ≡ get_or files place file
    → has_name name file ≡ false → All (λ (f : MemFile). has_name name f ≡ false) (take place files)
    → All (λ (f : MemFile). has_name name f ≡ false) (take (place + 1) files)
none_more files name place file lt is other none =
    let grown : take (place + 1) files ≡ take place files ++ get_or files place file ∷ [] = ap (λ n. take n files) (add-one place) ∙ take-suc files place file lt in
    let here : has_name name (get_or files place file) ≡ false = ap (has_name name) (sym is) ∙ other in
    subst (λ (fs : List MemFile). All (λ (f : MemFile). has_name name f ≡ false) fs) (sym grown)
    (All-push (λ (f : MemFile). has_name name f ≡ false) (take place files) (get_or files place file) none here)

-- ---- names that are lent

-- a name that stands once for a name is that name
pub once_same : (x name : List ℕ) → once x name ≡ 1 → x ≡ name
once_same x name is = (bytes_eq-Decides x name).0 (told (bytes_eq x name) is)
  where
    told : (b : Bool) → ◌≡◌ {A = ℕ} (cond b 1 0) 1 → b ≡ true
    told true e = refl
    told false e = cc

-- one more name is lent
pub lent_more : (lent : List (List ℕ)) (name n : List ℕ) → lent_times (lent ++ name ∷ []) n ≡ lent_times lent n + once name n
lent_more lent name n = sum_by_push (λ (other : List ℕ). once other n) lent name

-- one that is lent is taken out
pub lent_less : (lent : List (List ℕ)) (place : ℕ) (name d n : List ℕ) → StandsAt lent name place
    → lent_times (swap_remove lent place d) n + once name n ≡ lent_times lent n
lent_less lent place name d n is =
    ap (λ x. lent_times (swap_remove lent place d) n + once x n) (sym (once_same (get_or lent place d) name (is.here d)))
    ∙ sum_by-swap_remove (λ (other : List ℕ). once other n) lent place d is.within

-- a name that stands there is lent
pub lent_some : (lent : List (List ℕ)) (name : List ℕ) (place : ℕ) → StandsAt lent name place → 1 ≤ lent_times lent name
lent_some lent name place is =
    let same : bytes_eq name name ≡ true = (bytes_eq-Decides name name).1 refl in
    let one : once name name ≡ 1 = rw same refl in
    omega (arith, lent_less lent place name name name is, one)

-- ---- what is told

-- a name is lent once more, with a source that has left what its file holds
pub lends_more : (files : List MemFile) (lent : List (List ℕ)) (name : List ℕ) (source : SourceSeen) (named : Option (List ℕ)) → named ≡ Some name
    → (lent_times lent name ≡ 0 → source.left ≡ Some (content_of (map file_seen files) name))
    → LendsTold (told_of files lent) (told_of files (lent ++ name ∷ [])) name source named
lends_more files lent name source named is left = record {
  files = refl;
  lent = λ n. lent_more lent name n;
  name_is = is;
  left = left;
}

-- the first file of a name is lent as new
pub lends_first : (files : List MemFile) (lent after : List (List ℕ)) (name : List ℕ) (place most : ℕ) (file : MemFile) (source : LentState) → IsFirst files name place
    → file ≡ get_or files place file → source ≡ fresh_source file most → after ≡ lent ++ name ∷ []
    → LendsTold (told_of files lent) (told_of files after) name (lent_seen source) (Some source.name)
lends_first files lent after name place most file source first is whole more =
    let named : file.name ≡ name = ap (λ (f : MemFile). f.name) is ∙ (bytes_eq-Decides (get_or files place file).name name).0 (first.here file) in
    let holds : file.contents ≡ content_of (map file_seen files) name = ap (λ (f : MemFile). f.contents) is ∙ content_first files name place file first in
    let given : Some source.name ≡ Some name = ap (λ (s : LentState). Some s.name) whole ∙ ap Some named in
    let left : (lent_seen source).left ≡ Some (content_of (map file_seen files) name) = ap (λ (s : LentState). (lent_seen s).left) whole ∙ ap Some holds in
    subst (λ (l : List (List ℕ)). LendsTold (told_of files lent) (told_of files l) name (lent_seen source) (Some source.name)) (sym more)
    (lends_more files lent name (lent_seen source) (Some source.name) given (λ free. left))

-- ---- what a call gave

-- what is known of what a call gave, of what is kept of it
pub ok_gives : {X E : Type 0} (r : Result X E) (x : X) (P : X → Type 0) → Some x ≡ result_ok r → IfOk r P → P x
ok_gives {X} {E} (Ok y) x P e p =
    let same : y ≡ x = cc in
    subst P same p
ok_gives {X} {E} (Err y) x P e p = cc

-- one that was pushed stands at the end
pub pushed : {A X E : Type 0} (before after : List A) (x y : A) (r : Result X E) → after ≡ (if is_ok r then before ++ x ∷ [] else before) → true ≡ is_ok r → x ≡ y
    → after ≡ before ++ y ∷ []
pushed {A} {X} {E} before after x y (Ok u) e was same = e ∙ ap (λ (z : A). before ++ z ∷ []) same
pushed {A} {X} {E} before after x y (Err u) e was same = cc
