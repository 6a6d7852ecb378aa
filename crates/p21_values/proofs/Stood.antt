-- What stands at a place of the bytes is one: one value, one list of values, and one list of instances of a table.
use Rattle.std.proofs.Common.{◌≡◌, ◌⊎◌, inl, inr, ℕ, ◌-◌, ◌<◌, ◌≤◌, length, ◌∷◌, [], ◌++◌, List, Option, Some, None, map, refl, sym, ap, subst, ◌∙◌, append_assoc, append-nil, take, drop, arith}
use Rattle.std.specs.List.{AllZip}
use Rattle.std.specs.Prelude.{slice_range}
use Rattle.std.specs.Coded.{codes}
use base.Stored.{Coded-set}
use mathlib.Core.HLevel.{Σ_prop_path}
use mathlib.Core.Logic.{∥∥₁_elim, ∥∥₁_prop}
use Rattle.p21_lexer.specs.declared.token.Token.{Token}
use Rattle.std.specs.Char.{to_ascii_uppercase}
use Rattle.p21_lexer.specs.Spelling.{IsWord}
use Rattle.p21_values.specs.contracts.value.Value21 as row
use Rattle.p21_values.specs.declared.value.Value21.{Value21}
use Rattle.p21_values.specs.declared.value.Instance.{Instance}
use Rattle.p21_values.specs.declared.instance_head.Head.{Head}
use Rattle.p21_values.specs.Lexemes.{Lexeme, Closing, lexeme_of, Cuts}
use Rattle.p21_values.specs.Printing.{print, print_all}
use Rattle.p21_values.specs.inner.Saying.{content, contents}
use Rattle.p21_values.specs.Standing.{Stands, StandInside}
use Rattle.p21_values.specs.Tables.{NamesKeyword, Tells, Holds, Meaning, starts_of}
use Rattle.p21_values.proofs.Tokens.{one_token}
use Rattle.p21_values.proofs.Spelled.{spell, spell_all, print_is, print_all_is, one_value, one_all}
use Rattle.p21_values.proofs.SameSaying.{value_back, values_back, back, all_back}

-- Tokens that are cut from one place.

abbrev OneFront : List Lexeme → List Lexeme → Type 0
OneFront ls ms = ((x : List Lexeme) × (ms ≡ ls ++ x)) ⊎ ((x : List Lexeme) × (ls ≡ ms ++ x))

front_more : (l m : Lexeme) (ls ms : List Lexeme) → l ≡ m → OneFront ls ms → OneFront (l ∷ ls) (m ∷ ms)
front_more l m ls ms same (inl p) = inl (p.0, ap (λ z. z ∷ ms) (sym same) ∙ ap (λ z. l ∷ z) p.1)
front_more l m ls ms same (inr p) = inr (p.0, ap (λ z. z ∷ ls) same ∙ ap (λ z. m ∷ z) p.1)

-- of two lists of tokens that are cut from one place, one is a front of the other
cuts_front : (bytes : List ℕ) (at end fin : ℕ) (ls ms : List Lexeme) → Cuts bytes at ls end → Cuts bytes at ms fin → OneFront ls ms
cuts_front bytes at end fin [] ms h k = inl (ms, refl)
cuts_front bytes at end fin (l ∷ ls) [] h k = inr (l ∷ ls, refl)
cuts_front bytes at end fin (l ∷ ls) (m ∷ ms) h k =
    let e : h.0 ≡ k.0 = one_token bytes at h.0 k.0 h.1 k.1 in
    let same : l ≡ m = sym h.2 ∙ ap (λ (t : Token). lexeme_of bytes t) e ∙ k.2 in
    let rest : Cuts bytes h.0.end ms fin = (let P : Token → Type 0 = λ t. Cuts bytes t.end ms fin in subst P (sym e) k.3) in
    front_more l m ls ms same (cuts_front bytes h.0.end end fin ls ms h.3 rest)

-- Values.

-- tokens begin with one value
front_value : (v w : Value21) (x y : List Lexeme) → print v ++ x ≡ print w ++ y → v ≡ w
front_value v w x y e =
    let f : spell (content v) ++ x ≡ spell (content w) ++ y = sym (ap (λ z. z ++ x) (print_is v)) ∙ e ∙ ap (λ z. z ++ y) (print_is w) in
    sym (back v) ∙ ap value_back (one_value (content v) (content w) x y f).0 ∙ back w

value_of_front : (v w : Value21) → OneFront (print v) (print w) → v ≡ w
value_of_front v w (inl p) = front_value v w p.0 [] (sym p.1 ∙ sym (append-nil (print w)))
value_of_front v w (inr p) = front_value v w [] p.0 (append-nil (print v) ∙ p.1)

-- one value stands at a place
pub stands_once : (bytes : List ℕ) (at : ℕ) (v w : Value21) → Stands bytes at v → Stands bytes at w → v ≡ w
stands_once bytes at v w h k = value_of_front v w (cuts_front bytes at h.end k.end (print v) (print w) h.cuts k.cuts)

-- Lists of values up to a closing parenthesis.

front_all : (vs ws : List Value21) (x y : List Lexeme) → (print_all vs ++ Closing ∷ []) ++ x ≡ (print_all ws ++ Closing ∷ []) ++ y → vs ≡ ws
front_all vs ws x y e =
    let a : print_all vs ++ Closing ∷ x ≡ spell_all (contents (map content vs)) ++ Closing ∷ x = ap (λ z. z ++ Closing ∷ x) (print_all_is vs) in
    let b : print_all ws ++ Closing ∷ y ≡ spell_all (contents (map content ws)) ++ Closing ∷ y = ap (λ z. z ++ Closing ∷ y) (print_all_is ws) in
    let f : spell_all (contents (map content vs)) ++ Closing ∷ x ≡ spell_all (contents (map content ws)) ++ Closing ∷ y =
    sym a ∙ sym (append_assoc (print_all vs) (Closing ∷ []) x) ∙ e ∙ append_assoc (print_all ws) (Closing ∷ []) y ∙ b in
    sym (all_back vs) ∙ ap values_back (one_all (contents (map content vs)) (contents (map content ws)) x y f).0 ∙ all_back ws

all_of_front : (vs ws : List Value21) → OneFront (print_all vs ++ Closing ∷ []) (print_all ws ++ Closing ∷ []) → vs ≡ ws
all_of_front vs ws (inl p) = front_all vs ws p.0 [] (sym p.1 ∙ sym (append-nil (print_all ws ++ Closing ∷ [])))
all_of_front vs ws (inr p) = front_all vs ws [] p.0 (append-nil (print_all vs ++ Closing ∷ []) ∙ p.1)

-- one list of values stands from a place on
pub inside_once : (bytes : List ℕ) (at : ℕ) (vs ws : List Value21) → StandInside bytes at vs → StandInside bytes at ws → vs ≡ ws
inside_once bytes at vs ws h k = all_of_front vs ws (cuts_front bytes at h.0 k.0 (print_all vs ++ Closing ∷ []) (print_all ws ++ Closing ∷ []) h.1 k.1)

-- Tables.

no_word : IsWord [] → ⊥
no_word h = no_bytes h.bang h.first h.others h.whole
  where
    no_bytes : (bang : List ℕ) (first : ℕ) (others : List ℕ) → [] ≡ bang ++ first ∷ others → ⊥
    no_bytes [] first others e = cc
    no_bytes (b ∷ bang) first others e = cc

no_words : ∥ IsWord [] ∥₁ → ⊥
no_words h = ∥∥₁_elim h (λ a b. absurd a) no_word

nothing_between : (bytes : List ℕ) (at : ℕ) → slice_range bytes at at ≡ []
nothing_between bytes at = let e : at - at ≡ 0 = omega arith in ap (λ (n : ℕ). take n (drop at bytes)) e

-- where no bytes are there is no keyword
pub no_keyword : (bytes : List ℕ) (at end : ℕ) (k : Option (List ℕ)) → NamesKeyword bytes at end k → at ≡ end → k ≡ None
no_keyword bytes at end None h e = refl
no_keyword bytes at end (Some v) h e = absurd (no_words (subst (λ z. ∥ IsWord z ∥₁) (nothing_between bytes at) (subst (λ x. ∥ IsWord (slice_range bytes at x) ∥₁) (sym e) h.1)))

-- where bytes are they are the keyword
pub record Worded (bytes : List ℕ) (at end : ℕ) (k : Option (List ℕ)) : Type 0 where
  pub before : at ≤ end
  pub within : end ≤ length bytes
  pub word : ∥ IsWord (slice_range bytes at end) ∥₁
  pub said : k ≡ Some (map to_ascii_uppercase (slice_range bytes at end))

pub a_keyword : (bytes : List ℕ) (at end : ℕ) (k : Option (List ℕ)) → NamesKeyword bytes at end k → (at ≡ end → ⊥) → Worded bytes at end k
a_keyword bytes at end None h n = absurd (n h)
a_keyword bytes at end (Some v) h n = record { before = ordered bytes at end h.1; within = h.0; word = h.1; said = ap (λ (z : List ℕ). Some z) (sym h.2) }
  where
    nothing_back : (bytes : List ℕ) (at end : ℕ) → end < at → slice_range bytes at end ≡ []
    nothing_back bytes at end lt = let e : end - at ≡ 0 = omega (arith, lt) in ap (λ (n : ℕ). take n (drop at bytes)) e

    side : (a b : ℕ) → (a ≤ b) ⊎ (b < a)
    side a b = grind arith

    ordered : (bytes : List ℕ) (at end : ℕ) → ∥ IsWord (slice_range bytes at end) ∥₁ → at ≤ end
    ordered bytes at end w = elim (side at end) [ inl le ↦ le | inr gt ↦ absurd (no_words (subst (λ z. ∥ IsWord z ∥₁) (nothing_back bytes at end gt) w)) ]

one_keyword : (bytes : List ℕ) (at end : ℕ) (a b : Option (List ℕ)) → NamesKeyword bytes at end a → NamesKeyword bytes at end b → a ≡ b
one_keyword bytes at end None None h k = refl
one_keyword bytes at end None (Some w) h k = absurd (no_words (subst (λ z. ∥ IsWord z ∥₁) (nothing_between bytes at) (subst (λ e. ∥ IsWord (slice_range bytes at e) ∥₁) (sym h) k.1)))
one_keyword bytes at end (Some v) None h k = absurd (no_words (subst (λ z. ∥ IsWord z ∥₁) (nothing_between bytes at) (subst (λ e. ∥ IsWord (slice_range bytes at e) ∥₁) (sym k) h.1)))
one_keyword bytes at end (Some v) (Some w) h k = ap (λ (z : List ℕ). Some z) (sym h.2 ∙ k.2)

all_stand_once : (bytes starts : List ℕ) (vs ws : List Value21) → AllZip (Stands bytes) starts vs → AllZip (Stands bytes) starts ws → vs ≡ ws
all_stand_once bytes [] [] [] h k = refl
all_stand_once bytes [] [] (w ∷ ws) h k = absurd k
all_stand_once bytes [] (v ∷ vs) ws h k = absurd h
all_stand_once bytes (s ∷ starts) [] ws h k = absurd h
all_stand_once bytes (s ∷ starts) (v ∷ vs) [] h k = absurd k
all_stand_once bytes (s ∷ starts) (v ∷ vs) (w ∷ ws) h k = ap (λ z. z ∷ vs) (stands_once bytes s v w h.0 k.0) ∙ ap (λ z. w ∷ z) (all_stand_once bytes starts vs ws h.1 k.1)

abbrev made : ℕ → Option (List ℕ) → List Value21 → Instance
made id keyword values = record { id = id; keyword = keyword; values = values }

-- a head tells one instance
tells_once : (bytes starts : List ℕ) (head : Head) (i j : Instance) → Tells bytes starts head i → Tells bytes starts head j → i ≡ j
tells_once bytes starts head i j h k =
    let id : i.id ≡ j.id = sym h.number ∙ k.number in
    let keyword = one_keyword bytes head.word head.word_end i.keyword j.keyword h.keyword k.keyword in
    let values = all_stand_once bytes (starts_of starts head) i.values j.values h.values.0 k.values.0 in
    ap (λ (x : ℕ). made x i.keyword i.values) id ∙ ap (λ (x : Option (List ℕ)). made j.id x i.values) keyword ∙ ap (λ (x : List Value21). made j.id j.keyword x) values

-- a table tells one list of instances
pub one_meaning : (bytes starts : List ℕ) (heads : List Head) (a b : List Instance) → Holds bytes starts heads a → Holds bytes starts heads b → a ≡ b
one_meaning bytes starts [] [] [] h k = refl
one_meaning bytes starts [] [] (j ∷ b) h k = absurd k
one_meaning bytes starts [] (i ∷ a) b h k = absurd h
one_meaning bytes starts (head ∷ heads) [] b h k = absurd h
one_meaning bytes starts (head ∷ heads) (i ∷ a) [] h k = absurd k
one_meaning bytes starts (head ∷ heads) (i ∷ a) (j ∷ b) h k = ap (λ z. z ∷ a) (tells_once bytes starts head i j h.0 k.0) ∙ ap (λ z. j ∷ z) (one_meaning bytes starts heads a b h.1 k.1)

-- What ghost fields ask for: there is one proof.

values_set : IsSet (List Value21)
values_set = Coded-set (Prim.hlevel (codes, row.the_row.coded))

instances_set : IsSet (List Instance)
instances_set = Coded-set (Prim.hlevel (codes, row.the_row.coded))

pub one_inside : (bytes : List ℕ) (at : ℕ) → IsProp ((vs : List Value21) × ∥ StandInside bytes at vs ∥₁)
one_inside bytes at = λ u w. Σ_prop_path (λ v. ∥∥₁_prop) (∥∥₁_elim u.1 (values_set u.0 w.0) (λ h. ∥∥₁_elim w.1 (values_set u.0 w.0) (λ k. inside_once bytes at u.0 w.0 h k)))

pub one_world : (bytes starts : List ℕ) (heads : List Head) → IsProp (Meaning bytes starts heads)
one_world bytes starts heads = λ u w. Σ_prop_path (λ v. ∥∥₁_prop) (∥∥₁_elim u.1 (instances_set u.0 w.0) (λ h. ∥∥₁_elim w.1 (instances_set u.0 w.0) (λ k. one_meaning bytes starts heads u.0 w.0 h k)))

-- what a table or a list was given to say is what it says
pub world_told : (bytes starts : List ℕ) (heads : List Head) (given : Meaning bytes starts heads) (world : List Instance) → Holds bytes starts heads world → given.0 ≡ world
world_told bytes starts heads given world h = ∥∥₁_elim given.1 (instances_set given.0 world) (λ k. one_meaning bytes starts heads given.0 world k h)

pub inside_told : (bytes : List ℕ) (at : ℕ) (given : (vs : List Value21) × ∥ StandInside bytes at vs ∥₁) (vs : List Value21) → StandInside bytes at vs → given.0 ≡ vs
inside_told bytes at given vs h = ∥∥₁_elim given.1 (values_set given.0 vs) (λ k. inside_once bytes at given.0 vs k h)
