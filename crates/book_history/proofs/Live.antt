-- The last sixteen of a project's versions.
use Rattle.std.proofs.Common.{◌≡◌, ◌+◌, ◌-◌, ◌<◌, ◌≤◌, ◌⊎◌, ℕ, List, [], ◌∷◌, ◌++◌, length, drop, get_or, set, inl, inr, refl, sym, ◌∙◌, ap, ap₂, arith, length-append, length-drop}
use Rattle.std.proofs.lemmas.Bool.{cases_lt}
use Rattle.std.proofs.lemmas.List.{drop-append-le, drop-drop, get_or-drop, drop-set-add, length-set}
use Rattle.book_history.specs.Versions.{VersionState, live_in}

-- how many versions come before them
abbrev pub gone : List VersionState → ℕ
gone vs = length vs - 16

pub live_length : (vs : List VersionState) → length (live_in vs) + gone vs ≡ length vs
live_length vs = let n = length-drop (gone vs) vs in omega (arith, n)

pub few_live : (vs : List VersionState) → length (live_in vs) ≤ 16
few_live vs = let n = length-drop (gone vs) vs in omega (arith, n)

-- one more version: the oldest goes where there are sixteen
pub live_push : (vs : List VersionState) (v : VersionState) → live_in (live_in vs ++ v ∷ []) ≡ live_in (vs ++ v ∷ [])
live_push vs v =
    let k = gone vs in
    let all = vs ++ v ∷ [] in
    let few : k ≤ length vs = omega arith in
    let pushed : drop k vs ++ v ∷ [] ≡ drop k all = sym (drop-append-le k vs (v ∷ []) few) in
    let n : length (drop k all) ≡ length all - k = length-drop k all in
    let m = length-append vs (v ∷ []) in
    ap live_in pushed
    ∙ drop-drop (length (drop k all) - 16) k all
    ∙ ap (λ x. drop x all) (let e : k + (length (drop k all) - 16) ≡ length all - 16 = omega (arith, n, m) in e)

-- the version of a number, where it is one of them
pub live_at : (vs : List VersionState) (number : ℕ) (d : VersionState) → gone vs ≤ number → get_or (live_in vs) (number - gone vs) d ≡ get_or vs number d
live_at vs number d le = get_or-drop (gone vs) vs (number - gone vs) d ∙ ap (λ x. get_or vs x d) (let e : gone vs + (number - gone vs) ≡ number = omega arith in e)

-- a change of one of them
pub live_set : (vs : List VersionState) (number : ℕ) (v : VersionState) → gone vs ≤ number → live_in (set vs number v) ≡ set (live_in vs) (number - gone vs) v
live_set vs number v le =
    let same = length-set vs number v in
    let place : number ≡ gone vs + (number - gone vs) = omega arith in
    ap (λ x. drop (x - 16) (set vs number v)) same
    ∙ ap (λ x. drop (gone vs) (set vs x v)) place
    ∙ drop-set-add (gone vs) vs (number - gone vs) v
