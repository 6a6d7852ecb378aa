-- What a handle says, by what it keeps: the value that stands at its place, the values that stand from its place on.
use Rattle.std.proofs.Common.{◌≡◌, ℕ, Bool, Bor, List, [], ◌∷◌, Option, Some, None, IfSome, Ok, refl, sym, ap, subst, ◌∙◌, arith}
use Rattle.std.specs.Coded.{codes}
use base.Stored.{Coded-set}
use mathlib.Core.Logic.{∥∥₁_elim, ∥∥₁_prop}
use Rattle.p21_lexer.specs.declared.token.Token.{Token}
use Rattle.p21_lexer.specs.declared.token.TokenKind.TheVariants as tokens
use Rattle.p21_lexer.specs.Cutting.{CutsFrom}
use Rattle.p21_values.specs.contracts.value.Value21 as row
use Rattle.p21_values.specs.declared.piece.Kind.TheVariants as kinds
use Rattle.p21_values.specs.declared.value.Value21.{Value21}
use Rattle.p21_values.specs.Standing.{Stands, Begins, StandInside}
use Rattle.p21_values.specs.Values.{items_of, typed_of}
use Rattle.p21_values.proofs.SignsThere.{sign_cut}
use Rattle.p21_values.proofs.Stood.{stands_once, one_inside}
use Rattle.p21_table.specs.inner.FirstBytes.{LeavesBehind}
use Rattle.p21_table.specs.Stood.{Stood, one_stood}
use Rattle.p21_table.proofs.FirstTokens.{first_inside}

values_set : IsSet (List Value21)
values_set = Coded-set (Prim.hlevel (codes, row.the_row.coded))

nothing : IsProp ⊥
nothing a b = absurd a

value_set : IsSet Value21
value_set = Coded-set row.the_row.coded

-- The value that was given to stand there is the one that does.
pub stood_told : (bytes : List ℕ) (at : ℕ) (given : Stood bytes at) (v : Value21) → Stands bytes at v → given.0 ≡ v
stood_told bytes at given v h = ∥∥₁_elim given.1 (value_set given.0 v) (λ k. stands_once bytes at given.0 v k h)

-- An answer that is right of each value that stands there is right of the one that is told.
pub asked : {A : Type 0} (one : IsSet A) (bytes : List ℕ) (at : ℕ) (says : Stood bytes at) (f : Value21 → A) (answer : A) → ((v : Value21) → Stands bytes at v → answer ≡ f v)
    → answer ≡ f says.0
asked one bytes at says f answer h = ∥∥₁_elim says.1 (one answer (f says.0)) (λ s. h says.0 s)

bytes_set : IsSet (Option (List ℕ))
bytes_set = Coded-set (Prim.hlevel codes)

number_set : IsSet (Option ℕ)
number_set = Coded-set (Prim.hlevel codes)

bool_set : IsSet Bool
bool_set = Coded-set (Prim.hlevel codes)

pub bytes_asked : (bytes : List ℕ) (at : ℕ) (says : Stood bytes at) (f : Value21 → Option (List ℕ)) (answer : Option (List ℕ))
    → ((v : Value21) → Stands bytes at v → answer ≡ f v) → answer ≡ f says.0
bytes_asked bytes at says f answer h = asked bytes_set bytes at says f answer h

pub number_asked : (bytes : List ℕ) (at : ℕ) (says : Stood bytes at) (f : Value21 → Option ℕ) (answer : Option ℕ)
    → ((v : Value21) → Stands bytes at v → answer ≡ f v) → answer ≡ f says.0
number_asked bytes at says f answer h = asked number_set bytes at says f answer h

pub bool_asked : (bytes : List ℕ) (at : ℕ) (says : Stood bytes at) (f : Value21 → Bool) (answer : Bool) → ((v : Value21) → Stands bytes at v → answer ≡ f v)
    → answer ≡ f says.0
bool_asked bytes at says f answer h = asked bool_set bytes at says f answer h

-- an answer that may be none
pub found_asked : (bytes : List ℕ) (at : ℕ) (says : Stood bytes at) (f : Value21 → Option (List ℕ)) (v : Value21) → says.0 ≡ v → (found : Option (Bor (List ℕ)))
    → IfSome found (λ bs. (w : Value21) → Stands bytes at w → f w ≡ Some bs.now) → IfSome found (λ bs. f v ≡ Some bs.now)
found_asked bytes at says f v e None h = tt
found_asked bytes at says f v e (Some bs) h = sym (bytes_asked bytes at says f (Some bs.now) (λ w s. sym (h w s)) ∙ ap f e)

-- a value stands there, so a token does
pub never_stood : {A : Type 0} (bytes : List ℕ) (at : ℕ) (says : Stood bytes at) → ((v : Value21) → Stands bytes at v → ⊥) → A
never_stood bytes at says h = absurd (∥∥₁_elim says.1 nothing (λ s. h says.0 s))

-- The items of a list.

abbrev ItemsAt : List ℕ → ℕ → Value21 → Type 0
ItemsAt bytes at v = (vs : List Value21) × (items_of v ≡ Some vs) × StandInside bytes at vs

pub items_stand : (bytes : List ℕ) (at inside : ℕ) (says : Stood bytes at) → ((v : Value21) → Stands bytes at v → ItemsAt bytes inside v)
    → (vs : List Value21) × ∥ StandInside bytes inside vs ∥₁
items_stand bytes at inside says h = ∥∥₁_elim says.1 (one_inside bytes inside) (λ s. let i = h says.0 s in (i.0, ∣ i.2 ∣₁))

items_set : IsSet (Option (List Value21))
items_set = Coded-set (Prim.hlevel (codes, row.the_row.coded))

pub items_told : (bytes : List ℕ) (at inside : ℕ) (says : Stood bytes at) (made : List Value21) → ((v : Value21) → Stands bytes at v → ItemsAt bytes inside v)
    → ((vs : List Value21) → StandInside bytes inside vs → made ≡ vs) → Some made ≡ items_of says.0
items_told bytes at inside says made h k =
    ∥∥₁_elim says.1 (items_set (Some made) (items_of says.0)) (λ s. let i = h says.0 s in ap (λ (vs : List Value21). Some vs) (k i.0 i.2) ∙ sym i.1)

pub no_items_told : (bytes : List ℕ) (at : ℕ) (says : Stood bytes at) → ((v : Value21) → Stands bytes at v → items_of v ≡ None) → None ≡ items_of says.0
no_items_told bytes at says h = ∥∥₁_elim says.1 (items_set None (items_of says.0)) (λ s. sym (h says.0 s))

-- The value that a typed value holds.

abbrev HeldAt : List ℕ → ℕ → Value21 → Type 0
HeldAt bytes at v = (w : Value21) × (typed_of v ≡ Some w) × Stands bytes at w

pub held_stands : (bytes : List ℕ) (at inside : ℕ) (says : Stood bytes at) → ((v : Value21) → Stands bytes at v → HeldAt bytes inside v) → Stood bytes inside
held_stands bytes at inside says h = ∥∥₁_elim says.1 (one_stood bytes inside) (λ s. let i = h says.0 s in (i.0, ∣ i.2 ∣₁))

held_set : IsSet (Option Value21)
held_set = Coded-set (Prim.hlevel (codes, row.the_row.coded))

pub held_told : (bytes : List ℕ) (at inside : ℕ) (says : Stood bytes at) (made : Value21) → ((v : Value21) → Stands bytes at v → HeldAt bytes inside v)
    → ((w : Value21) → Stands bytes inside w → made ≡ w) → Some made ≡ typed_of says.0
held_told bytes at inside says made h k =
    ∥∥₁_elim says.1 (held_set (Some made) (typed_of says.0)) (λ s. let i = h says.0 s in ap (λ (w : Value21). Some w) (k i.0 i.2) ∙ sym i.1)

pub none_held_told : (bytes : List ℕ) (at : ℕ) (says : Stood bytes at) → ((v : Value21) → Stands bytes at v → typed_of v ≡ None) → None ≡ typed_of says.0
none_held_told bytes at says h = ∥∥₁_elim says.1 (held_set None (typed_of says.0)) (λ s. sym (h says.0 s))

-- The next of a list.

abbrev FirstBegins : List ℕ → Token → List Value21 → Type 0
FirstBegins bytes t vs = (v : Value21) × (others : List Value21) × (vs ≡ v ∷ others) × Begins bytes t v

-- where the first of them begins with the token, the others stand after it
pub leaves : (bytes : List ℕ) (at after : ℕ) (t : Token) → ((vs : List Value21) → StandInside bytes at vs → FirstBegins bytes t vs)
    → ((from : ℕ) (v : Value21) (vs : List Value21) → StandInside bytes from (v ∷ vs) → CutsFrom bytes from (Ok (Some t)) → StandInside bytes after vs) → CutsFrom bytes at (Ok (Some t))
    → LeavesBehind bytes at after
leaves bytes at after t item next cuts = λ vs k.
    let f = item vs k in
    let inside : StandInside bytes at (f.0 ∷ f.1) = subst (λ (xs : List Value21). StandInside bytes at xs) f.2 k in
    (f.0, f.1, f.2, (first_inside bytes at f.0 f.1 inside).0, next at f.0 f.1 inside cuts)

not_empty : (v : Value21) (vs : List Value21) → [] ≡ v ∷ vs → ⊥
not_empty v vs e = cc

same_others : (v w : Value21) (vs ws : List Value21) → v ∷ vs ≡ w ∷ ws → ws ≡ vs
same_others v w vs ws e = cc

no_first : {A : Type 0} (bytes : List ℕ) (at after : ℕ) → ∥ StandInside bytes at [] ∥₁ → LeavesBehind bytes at after → A
no_first bytes at after s h = absurd (∥∥₁_elim s nothing (λ k. let f = h [] k in not_empty f.0 f.1 f.2))

-- a value stands where they do
pub first_stands : (bytes : List ℕ) (at after : ℕ) (says : (vs : List Value21) × ∥ StandInside bytes at vs ∥₁) → LeavesBehind bytes at after → Stood bytes at
first_stands bytes at after ([], s) h = no_first bytes at after s h
first_stands bytes at after (v ∷ vs, s) h = (v, ∥∥₁_elim s ∥∥₁_prop (λ k. ∣ (first_inside bytes at v vs k).0 ∣₁))

-- the others stand after it
pub others_stand : (bytes : List ℕ) (at after : ℕ) (says : (vs : List Value21) × ∥ StandInside bytes at vs ∥₁) → LeavesBehind bytes at after
    → (vs : List Value21) × ∥ StandInside bytes after vs ∥₁
others_stand bytes at after ([], s) h = no_first bytes at after s h
others_stand bytes at after (v ∷ vs, s) h =
    (vs, ∥∥₁_elim s ∥∥₁_prop (λ k. let f = h (v ∷ vs) k in ∣ subst (λ (xs : List Value21). StandInside bytes after xs) (same_others v f.0 vs f.1 f.2) f.4 ∣₁))

-- they are the list
pub list_told : (bytes : List ℕ) (at after : ℕ) (says : (vs : List Value21) × ∥ StandInside bytes at vs ∥₁) (value : Value21) (left : List Value21) → LeavesBehind bytes at after
    → ((v : Value21) → Stands bytes at v → value ≡ v) → ((vs : List Value21) → StandInside bytes after vs → left ≡ vs) → says.0 ≡ value ∷ left
list_told bytes at after says value left h is are =
    ∥∥₁_elim says.1 (values_set says.0 (value ∷ left))
    (λ k.
    let f = h says.0 k in
    let first : value ≡ f.0 = is f.0 f.3 in
    let others : left ≡ f.1 = are f.1 f.4 in
    f.2 ∙ sym (ap (λ (x : Value21). x ∷ left) first ∙ ap (λ (xs : List Value21). f.0 ∷ xs) others))

-- none is left
pub none_told : (bytes : List ℕ) (at : ℕ) (says : (vs : List Value21) × ∥ StandInside bytes at vs ∥₁) → ((vs : List Value21) → StandInside bytes at vs → vs ≡ []) → says.0 ≡ []
none_told bytes at says h = ∥∥₁_elim says.1 (values_set says.0 []) (λ k. h says.0 k)

-- what was made of the same place says the same
pub same_told : (bytes : List ℕ) (at : ℕ) (says : (vs : List Value21) × ∥ StandInside bytes at vs ∥₁) (made : List Value21) → ((vs : List Value21) → StandInside bytes at vs → made ≡ vs) → made ≡ says.0
same_told bytes at says made h = ∥∥₁_elim says.1 (values_set made says.0) (λ k. h says.0 k)

-- a closing parenthesis ends no values
pub closed_stands : StandInside (41 ∷ []) 0 []
closed_stands = (1, (record { kind = tokens.Single; start = 0; end = 1 }, sign_cut (41 ∷ []) 0 kinds.Close (omega arith) tt refl, refl, refl))
