-- Bytes have one answer: one exchange or one first fault, and not both.
use Rattle.std.proofs.Common.{◌≡◌, ℕ, ◌+◌, ◌==◌, inl, inr, cond, sum_by, IsPermutation, List, [], ◌∷◌, ◌++◌, map, length, Some, None, Ok, Err, arith, refl, sym, ap, subst, ◌∙◌, append_assoc}
use Rattle.std.proofs.lemmas.List.Sorted.{length_permutation, sum_by-IsPermutation, IsPermutation-map, IsPermutation-trans, IsPermutation-sym}
use Rattle.std.proofs.lemmas.List.Sums.{sum_by-cons}
use Rattle.bim_model.specs.declared.upload.UploadFault.{UploadFault}
use Rattle.bim_model.specs.declared.upload.UploadFault.TheVariants as faults
use Rattle.bim_model.specs.declared.upload.Many.TheVariants as many
use Rattle.p21_lexer.specs.declared.token.Token.{Token}
use Rattle.p21_lexer.specs.declared.token.LexFault.TheVariants as lex
use Rattle.p21_lexer.specs.Cutting.{CutsFrom, start_of}
use Rattle.p21_lexer.proofs.OneCut.{one_answer}
use Rattle.p21_values.specs.declared.value.Instance.{Instance}
use Rattle.p21_values.specs.Grammar.{Class, Iso, Header, Semi, Word, IsFile, IsViable, file}
use Rattle.p21_reader.specs.Machine.{run, bind}
use Rattle.p21_values.specs.Lexemes.{Lexeme, lexeme_of, class_of, Cuts, classes}
use Rattle.p21_reader.specs.Schema.{Statement, NamesIfc4}
use Rattle.p21_values.specs.Counting.{size, values_of, times}
use Rattle.p21_values.specs.inner.Saying.{content, contents, saying}
use Rattle.p21_reader.specs.ExchangeFiles.{HoldsFile, Reaches, NoneThere, WrongThere}
use Rattle.p21_reader.specs.Uploads.{BeginsPart21, IsUpload, IsIfc4Upload, IsLeastDouble, SpellsExchange, HasFault}
use Rattle.p21_reader.proofs.Viable.{run_append, file_iff}
use Rattle.p21_reader.proofs.Steps.{classes_append}
use Rattle.p21_values.proofs.Tokens.{one_token}
use Rattle.p21_reader.proofs.FileLemmas.{longer, shorter, fronts}
use Rattle.p21_reader.proofs.OneReading.{one_header, one_saying}
use Rattle.p21_values.proofs.SameSaying.{same_instances}
use Rattle.p21_values.proofs.Sizes.{sized_all, sizes_are}
use Rattle.p21_values.proofs.PlaceLemmas.{trichotomy}
use Rattle.p21_reader.proofs.Strict.{strict_from, same_strict, rises_once}
use Rattle.p21_reader.proofs.Doubles.{times_cons}

-- The place where bytes can't go on to a file is one.

-- with the token there, if there is one, the tokens so far begin no file
abbrev Stuck : List ℕ → List Lexeme → ℕ → Type 0
Stuck bytes ls mid = (t : Token) → CutsFrom bytes mid (Ok (Some t)) → IsViable (classes (ls ++ lexeme_of bytes t ∷ [])) → ⊥

none_stuck : (bytes : List ℕ) (ls : List Lexeme) (mid p : ℕ) → CutsFrom bytes mid (Err (lex.BadToken p)) → Stuck bytes ls mid
none_stuck bytes ls mid p h t k v = let e = one_answer bytes mid (Err (lex.BadToken p)) (Ok (Some t)) h k in cc

wrong_stuck : (bytes : List ℕ) (p : ℕ) (w : WrongThere bytes p) → Stuck bytes w.0 w.1
wrong_stuck bytes p w t k v = elim w.3 [
  | inl h ↦ (let e = one_answer bytes w.1 (Ok None) (Ok (Some t)) h.0 k in cc)
  | inr h ↦ (let e : t ≡ h.0 = one_token bytes w.1 t h.0 k h.1 in h.3 (subst (λ (u : Token). IsViable (classes (w.0 ++ lexeme_of bytes u ∷ []))) e v))
]

viable_front : (xs ys : List Class) → IsViable (xs ++ ys) → IsViable xs
viable_front xs ys v = (ys ++ v.0, subst IsFile (append_assoc xs ys v.0) v.1)

file_viable : (xs : List Class) → IsFile xs → IsViable xs
file_viable xs h = ([], subst IsFile (sym (append_nil xs)) h)
  where
    append_nil : {A : Type 0} (xs : List A) → xs ++ [] ≡ xs
    append_nil [] = refl
    append_nil (x ∷ xs) = ap (λ y. x ∷ y) (append_nil xs)

-- what begins a file is no longer than where the bytes get stuck
not_past : (bytes : List ℕ) (ls ms : List Lexeme) (mid end : ℕ) → Cuts bytes (start_of bytes) ls mid → Stuck bytes ls mid → Cuts bytes (start_of bytes) ms end → IsViable (classes ms) → (rest : List Lexeme) × (ls ≡ ms ++ rest)
not_past bytes ls ms mid end h s k v = elim (fronts bytes (start_of bytes) mid end ls ms h k) [
  | longer l rest e t c same ↦
      absurd (s t c (let P : Lexeme → Type 0 = λ x. IsViable (classes (ls ++ x ∷ [])) in
      subst P (sym same) (viable_front (classes (ls ++ l ∷ [])) (classes rest)
      (subst IsViable (ap classes e ∙ ap classes (sym (append_assoc ls (l ∷ []) rest)) ∙ classes_append (ls ++ l ∷ []) rest) v))))
  | shorter rest e ↦ (rest, e)
]

both_fronts : {A : Type 0} (xs ys r q : List A) → xs ≡ ys ++ r → ys ≡ xs ++ q → xs ≡ ys
both_fronts xs ys r q e f = same xs ys r q e f
  where
    nil : {A : Type 0} (xs : List A) → xs ++ [] ≡ xs
    nil [] = refl
    nil (x ∷ xs) = ap (λ y. x ∷ y) (nil xs)

    same : {A : Type 0} (xs ys r q : List A) → xs ≡ ys ++ r → ys ≡ xs ++ q → xs ≡ ys
    same [] [] r q e f = refl
    same [] (y ∷ ys) r q e f = cc
    same (x ∷ xs) [] r q e f = cc
    same (x ∷ xs) (y ∷ ys) r q e f = let a : x ≡ y = cc in let b : xs ≡ ys ++ r = cc in let c : ys ≡ xs ++ q = cc in ap (λ z. z ∷ xs) a ∙ ap (λ z. y ∷ z) (same xs ys r q b c)

one_end : (bytes : List ℕ) (at a b : ℕ) (ls : List Lexeme) → Cuts bytes at ls a → Cuts bytes at ls b → a ≡ b
one_end bytes at a b [] h k = sym h ∙ k
one_end bytes at a b (l ∷ ls) h k =
    let e : k.0 ≡ h.0 = one_token bytes at k.0 h.0 k.1 h.1 in
    one_end bytes h.0.end a b ls h.3 (let P : Token → Type 0 = λ t. Cuts bytes t.end ls b in subst P e k.3)

one_place : (bytes : List ℕ) (ls ms : List Lexeme) (a b : ℕ) → Reaches bytes ls a → Stuck bytes ls a → Reaches bytes ms b → Stuck bytes ms b → a ≡ b
one_place bytes ls ms a b h s k t =
    let r = not_past bytes ls ms a b h.cuts s k.cuts k.viable in
    let q = not_past bytes ms ls b a k.cuts t h.cuts h.viable in
    let e : ms ≡ ls = both_fronts ms ls q.0 r.0 q.1 r.1 in
    one_end bytes (start_of bytes) a b ls h.cuts (let P : List Lexeme → Type 0 = λ x. Cuts bytes (start_of bytes) x b in subst P e k.cuts)

run_past : (xs ys : List Class) → run file xs ≡ Some [] → run file (xs ++ ys) ≡ run [] ys
run_past xs ys h = run_append file xs ys ∙ ap (λ o. bind o (λ β. run β ys)) h

no_more : (ys : List Class) → run [] ys ≡ Some [] → ys ≡ []
no_more [] h = refl
no_more (y ∷ ys) h = cc

no_class : (ls : List Lexeme) → classes ls ≡ [] → ls ≡ []
no_class [] h = refl
no_class (l ∷ ls) h = cc

left_nil : (xs ys : List Class) → xs ++ ys ≡ [] → xs ≡ []
left_nil [] ys h = refl
left_nil (x ∷ xs) ys h = cc

-- no file, where the bytes can't go on to one
stuck_file : (bytes : List ℕ) (ls : List Lexeme) (mid : ℕ) (ss : List Statement) (found : List Instance) → Reaches bytes ls mid → Stuck bytes ls mid → HoldsFile bytes ss found → ⊥
stuck_file bytes ls mid ss found h s k =
    let is_file = k.spells.is_file in
    let r = not_past bytes ls k.said mid k.end h.cuts s k.cuts (file_viable (classes k.said) is_file) in
    let v = h.viable in
    let e : run file ((classes k.said ++ classes r.0) ++ v.0) ≡ Some [] = ap (λ x. run file (x ++ v.0)) (sym (classes_append k.said r.0) ∙ ap classes (sym r.1)) ∙ (file_iff (classes ls ++ v.0)).0 v.1 in
    let f = sym (run_past (classes k.said) (classes r.0 ++ v.0) ((file_iff (classes k.said)).0 is_file)) ∙ ap (λ x. run file x) (sym (append_assoc (classes k.said) (classes r.0) v.0)) ∙ e in
    let g : r.0 ≡ [] = no_class r.0 (left_nil (classes r.0) v.0 (no_more (classes r.0 ++ v.0) f)) in
    h.none (subst (λ x. IsFile (classes x)) (sym (nil k.said) ∙ ap (λ x. k.said ++ x) (sym g) ∙ sym r.1) is_file)
  where
    nil : {A : Type 0} (xs : List A) → xs ++ [] ≡ xs
    nil [] = refl
    nil (x ∷ xs) = ap (λ y. x ∷ y) (nil xs)

none_file : (bytes : List ℕ) (p : ℕ) (ss : List Statement) (found : List Instance) → NoneThere bytes p → HoldsFile bytes ss found → ⊥
none_file bytes p ss found h k = stuck_file bytes h.0 h.1 ss found h.2 (none_stuck bytes h.0 h.1 p h.3) k

wrong_file : (bytes : List ℕ) (p : ℕ) (ss : List Statement) (found : List Instance) → WrongThere bytes p → HoldsFile bytes ss found → ⊥
wrong_file bytes p ss found h k = stuck_file bytes h.0 h.1 ss found h.2 (wrong_stuck bytes p h) k

none_none : (bytes : List ℕ) (p q : ℕ) → NoneThere bytes p → NoneThere bytes q → p ≡ q
none_none bytes p q h k =
    let e : k.1 ≡ h.1 = one_place bytes k.0 h.0 k.1 h.1 k.2 (none_stuck bytes k.0 k.1 q k.3) h.2 (none_stuck bytes h.0 h.1 p h.3) in
    let f = one_answer bytes h.1 (Err (lex.BadToken p)) (Err (lex.BadToken q)) h.3 (let P : ℕ → Type 0 = λ n. CutsFrom bytes n (Err (lex.BadToken q)) in subst P e k.3) in
    cc

none_wrong : (bytes : List ℕ) (p q : ℕ) → NoneThere bytes p → WrongThere bytes q → ⊥
none_wrong bytes p q h k =
    let e : h.1 ≡ k.1 = one_place bytes h.0 k.0 h.1 k.1 h.2 (none_stuck bytes h.0 h.1 p h.3) k.2 (wrong_stuck bytes q k) in
    let c : CutsFrom bytes k.1 (Err (lex.BadToken p)) = (let P : ℕ → Type 0 = λ n. CutsFrom bytes n (Err (lex.BadToken p)) in subst P e h.3) in
    elim k.3 [
      | inl r ↦ (let f = one_answer bytes k.1 (Err (lex.BadToken p)) (Ok None) c r.0 in cc)
      | inr r ↦ (let f = one_answer bytes k.1 (Err (lex.BadToken p)) (Ok (Some r.0)) c r.1 in cc)
    ]

wrong_wrong : (bytes : List ℕ) (p q : ℕ) → WrongThere bytes p → WrongThere bytes q → p ≡ q
wrong_wrong bytes p q h k =
    let e : k.1 ≡ h.1 = one_place bytes k.0 h.0 k.1 h.1 k.2 (wrong_stuck bytes q k) h.2 (wrong_stuck bytes p h) in
    elim h.3 [
      | inl r ↦ elim k.3 [
        | inl s ↦ r.1 ∙ sym s.1
        | inr s ↦ absurd (let f = one_answer bytes h.1 (Ok None) (Ok (Some s.0)) r.0 (let P : ℕ → Type 0 = λ n. CutsFrom bytes n (Ok (Some s.0)) in subst P e s.1) in cc)
      ]
      | inr r ↦ elim k.3 [
        | inl s ↦ absurd (let f = one_answer bytes h.1 (Ok (Some r.0)) (Ok None) r.1 (let P : ℕ → Type 0 = λ n. CutsFrom bytes n (Ok None) in subst P e s.0) in cc)
        | inr s ↦ (let t : r.0 ≡ s.0 = one_token bytes h.1 r.0 s.0 r.1 (let P : ℕ → Type 0 = λ n. CutsFrom bytes n (Ok (Some s.0)) in subst P e s.1) in
            r.2 ∙ ap (λ (u : Token). u.start) t ∙ sym s.2)
      ]
    ]

-- A file begins with its first two tokens.

front_cuts : (bytes : List ℕ) (at end : ℕ) (ls ms : List Lexeme) → Cuts bytes at (ls ++ ms) end → (mid : ℕ) × Cuts bytes at ls mid
front_cuts bytes at end [] ms h = (at, refl)
front_cuts bytes at end (l ∷ ls) ms h = let r = front_cuts bytes h.0.end end ls ms h.3 in (r.0, (h.0, h.1, h.2, r.1))

first_two : (ls : List Lexeme) (c d : Class) (cs : List Class) → classes ls ≡ c ∷ d ∷ cs → (a b : Lexeme) × (rest : List Lexeme) × (ls ≡ a ∷ b ∷ rest) × (classes (a ∷ b ∷ []) ≡ c ∷ d ∷ [])
first_two [] c d cs h = cc
first_two (l ∷ []) c d cs h = absurd (let e : [] ≡ d ∷ cs = cc in cc)
first_two (l ∷ m ∷ ls) c d cs h = let e : class_of l ≡ c = cc in let f : class_of m ∷ classes ls ≡ d ∷ cs = cc in let g : class_of m ≡ d = cc in (l, m, ls, refl, ap (λ x. x ∷ class_of m ∷ []) e ∙ ap (λ x. c ∷ x ∷ []) g)

file_begins : (bytes : List ℕ) (ss : List Statement) (found : List Instance) → HoldsFile bytes ss found → BeginsPart21 bytes
file_begins bytes ss found h =
    let head = h.spells.headed in
    let two = first_two head.opening (Word Iso) Semi (Word Header ∷ Semi ∷ []) head.is_opening in
    let rest : List Lexeme = (two.2 ++ (head.middle ++ head.closing)) ++ (h.spells.data_section ++ h.spells.closing) in
    let e : h.said ≡ (two.0 ∷ two.1 ∷ []) ++ rest = h.spells.whole ∙ ap (λ x. x ++ (h.spells.data_section ++ h.spells.closing)) (head.whole ∙ ap (λ x. x ++ (head.middle ++ head.closing)) two.3) in
    let c = front_cuts bytes (start_of bytes) h.end (two.0 ∷ two.1 ∷ []) rest (let P : List Lexeme → Type 0 = λ x. Cuts bytes (start_of bytes) x h.end in subst P e h.cuts) in
    (two.0 ∷ two.1 ∷ [], c.0, c.1, two.4)

-- What the saying of instances tells of them: how many they are, how many values they have, and how often a number stands.

pub same_length : (a b : List Instance) → map saying a ≡ map saying b → length a ≡ length b
same_length [] [] h = refl
same_length [] (j ∷ b) h = cc
same_length (i ∷ a) [] h = cc
same_length (i ∷ a) (j ∷ b) h = let e : map saying a ≡ map saying b = cc in let f = same_length a b e in omega (arith, f)

pub same_times : (id : ℕ) (a b : List Instance) → map saying a ≡ map saying b → times id a ≡ times id b
same_times id [] [] h = refl
same_times id [] (j ∷ b) h = cc
same_times id (i ∷ a) [] h = cc
same_times id (i ∷ a) (j ∷ b) h =
    let e : map saying a ≡ map saying b = cc in
    let s : saying i ≡ saying j = cc in
    let n : i.id ≡ j.id = ap (λ x. x.0) s in
    times_cons id i a ∙ ap (λ m. cond (m == id) 1 0 + times id a) n ∙ ap (λ m. cond (j.id == id) 1 0 + m) (same_times id a b e) ∙ sym (times_cons id j b)

pub same_values : (a b : List Instance) → map saying a ≡ map saying b → values_of a ≡ values_of b
same_values [] [] h = refl
same_values [] (j ∷ b) h = cc
same_values (i ∷ a) [] h = cc
same_values (i ∷ a) (j ∷ b) h =
    let e : map saying a ≡ map saying b = cc in
    let s : saying i ≡ saying j = cc in
    let n : contents (map content i.values) ≡ contents (map content j.values) = ap (λ x. x.2) s in
    let m : sum_by size i.values ≡ sum_by size j.values = sizes_are i.values ∙ ap sized_all n ∙ sym (sizes_are j.values) in
    sum_by-cons (λ (x : Instance). sum_by size x.values) i a ∙ ap (λ x. x + values_of a) m ∙ ap (λ x. sum_by size j.values + x) (same_values a b e) ∙ sym (sum_by-cons (λ (x : Instance). sum_by size x.values) j b)

pub one_found : (bytes : List ℕ) (a b : List Instance) → IsIfc4Upload bytes a → IsIfc4Upload bytes b → map saying a ≡ map saying b
one_found bytes a b h k = one_saying bytes h.0 k.0 a b h.1.1 k.1.1

not_named : (bytes : List ℕ) (ss : List Statement) (a b : List Instance) → IsUpload bytes ss a → (NamesIfc4 ss → ⊥) → IsIfc4Upload bytes b → ⊥
not_named bytes ss a b h n k = n (subst NamesIfc4 (one_header bytes k.0 ss b a k.1.1 h.1) k.2)

-- Where bytes have a fault, they spell no exchange.

pub refused : (bytes : List ℕ) (fault : UploadFault) (a : List Instance) → HasFault bytes fault → SpellsExchange bytes a → ⊥
refused bytes (faults.TooMany many.Bytes) a h x = omega (arith, h, x.1.1.0)
refused bytes faults.NotPart21 a h x = h.1 (file_begins bytes x.1.0 x.0 x.1.1.1)
refused bytes (faults.BadToken p) a h x = none_file bytes p x.1.0 x.0 h.2 x.1.1.1
refused bytes (faults.BadStatement p) a h x = wrong_file bytes p x.1.0 x.0 h.2 x.1.1.1
refused bytes faults.WrongSchema a h x = not_named bytes h.0 h.1 x.0 h.2 h.3 x.1
refused bytes (faults.TooMany many.Instances) a h x = omega (arith, h.2, x.3, same_length h.0 x.0 (one_found bytes h.0 x.0 h.1 x.1), length_permutation x.0 a x.2)
refused bytes (faults.TooMany many.Values) a h x =
    omega (arith, h.3, x.4, same_values h.0 x.0 (one_found bytes h.0 x.0 h.1 x.1), sum_by-IsPermutation (λ (i : Instance). sum_by size i.values) x.0 a x.2)
refused bytes (faults.DoubleId id) a h x =
    omega (arith, h.4.0, same_times id h.0 x.0 (one_found bytes h.0 x.0 h.1 x.1), sum_by-IsPermutation (λ (i : Instance). cond (i.id == id) 1 0) x.0 a x.2, rises_once id a x.5)
refused bytes fault a h x = absurd h

-- Bytes have one fault.

one_double : (bytes : List ℕ) (a b : List Instance) (p q : ℕ) → IsIfc4Upload bytes a → IsIfc4Upload bytes b → IsLeastDouble p a → IsLeastDouble q b → p ≡ q
one_double bytes a b p q h k m n =
    let e = one_found bytes a b h k in
    elim (trichotomy p q) [
      | inl lt ↦ absurd (omega (arith, m.0, n.1 p lt, same_times p a b e))
      | inr r ↦ elim r [
        | inl same ↦ same
        | inr gt ↦ absurd (omega (arith, n.0, m.1 q gt, same_times q a b e))
      ]
    ]

bytes_fault : (bytes : List ℕ) (g : UploadFault) → HasFault bytes (faults.TooMany many.Bytes) → HasFault bytes g → faults.TooMany many.Bytes ≡ g
bytes_fault bytes (faults.TooMany many.Bytes) h k = refl
bytes_fault bytes faults.NotPart21 h k = absurd (omega (arith, h, k.0))
bytes_fault bytes (faults.BadToken q) h k = absurd (omega (arith, h, k.0))
bytes_fault bytes (faults.BadStatement q) h k = absurd (omega (arith, h, k.0))
bytes_fault bytes faults.WrongSchema h k = absurd (omega (arith, h, k.2.0))
bytes_fault bytes (faults.TooMany many.Instances) h k = absurd (omega (arith, h, k.1.1.0))
bytes_fault bytes (faults.TooMany many.Values) h k = absurd (omega (arith, h, k.1.1.0))
bytes_fault bytes (faults.DoubleId q) h k = absurd (omega (arith, h, k.1.1.0))
bytes_fault bytes g h k = absurd k

begin_fault : (bytes : List ℕ) (g : UploadFault) → HasFault bytes faults.NotPart21 → HasFault bytes g → faults.NotPart21 ≡ g
begin_fault bytes (faults.TooMany many.Bytes) h k = absurd (omega (arith, k, h.0))
begin_fault bytes faults.NotPart21 h k = refl
begin_fault bytes (faults.BadToken q) h k = absurd (h.1 k.1)
begin_fault bytes (faults.BadStatement q) h k = absurd (h.1 k.1)
begin_fault bytes faults.WrongSchema h k = absurd (h.1 (file_begins bytes k.0 k.1 k.2.1))
begin_fault bytes (faults.TooMany many.Instances) h k = absurd (h.1 (file_begins bytes k.1.0 k.0 k.1.1.1))
begin_fault bytes (faults.TooMany many.Values) h k = absurd (h.1 (file_begins bytes k.1.0 k.0 k.1.1.1))
begin_fault bytes (faults.DoubleId q) h k = absurd (h.1 (file_begins bytes k.1.0 k.0 k.1.1.1))
begin_fault bytes g h k = absurd k

token_fault : (bytes : List ℕ) (p : ℕ) (g : UploadFault) → HasFault bytes (faults.BadToken p) → HasFault bytes g → faults.BadToken p ≡ g
token_fault bytes p (faults.TooMany many.Bytes) h k = absurd (omega (arith, k, h.0))
token_fault bytes p faults.NotPart21 h k = absurd (k.1 h.1)
token_fault bytes p (faults.BadToken q) h k = ap faults.BadToken (none_none bytes p q h.2 k.2)
token_fault bytes p (faults.BadStatement q) h k = absurd (none_wrong bytes p q h.2 k.2)
token_fault bytes p faults.WrongSchema h k = absurd (none_file bytes p k.0 k.1 h.2 k.2.1)
token_fault bytes p (faults.TooMany many.Instances) h k = absurd (none_file bytes p k.1.0 k.0 h.2 k.1.1.1)
token_fault bytes p (faults.TooMany many.Values) h k = absurd (none_file bytes p k.1.0 k.0 h.2 k.1.1.1)
token_fault bytes p (faults.DoubleId q) h k = absurd (none_file bytes p k.1.0 k.0 h.2 k.1.1.1)
token_fault bytes p g h k = absurd k

statement_fault : (bytes : List ℕ) (p : ℕ) (g : UploadFault) → HasFault bytes (faults.BadStatement p) → HasFault bytes g → faults.BadStatement p ≡ g
statement_fault bytes p (faults.TooMany many.Bytes) h k = absurd (omega (arith, k, h.0))
statement_fault bytes p faults.NotPart21 h k = absurd (k.1 h.1)
statement_fault bytes p (faults.BadToken q) h k = absurd (none_wrong bytes q p k.2 h.2)
statement_fault bytes p (faults.BadStatement q) h k = ap faults.BadStatement (wrong_wrong bytes p q h.2 k.2)
statement_fault bytes p faults.WrongSchema h k = absurd (wrong_file bytes p k.0 k.1 h.2 k.2.1)
statement_fault bytes p (faults.TooMany many.Instances) h k = absurd (wrong_file bytes p k.1.0 k.0 h.2 k.1.1.1)
statement_fault bytes p (faults.TooMany many.Values) h k = absurd (wrong_file bytes p k.1.0 k.0 h.2 k.1.1.1)
statement_fault bytes p (faults.DoubleId q) h k = absurd (wrong_file bytes p k.1.0 k.0 h.2 k.1.1.1)
statement_fault bytes p g h k = absurd k

schema_fault : (bytes : List ℕ) (g : UploadFault) → HasFault bytes faults.WrongSchema → HasFault bytes g → faults.WrongSchema ≡ g
schema_fault bytes (faults.TooMany many.Bytes) h k = absurd (omega (arith, k, h.2.0))
schema_fault bytes faults.NotPart21 h k = absurd (k.1 (file_begins bytes h.0 h.1 h.2.1))
schema_fault bytes (faults.BadToken q) h k = absurd (none_file bytes q h.0 h.1 k.2 h.2.1)
schema_fault bytes (faults.BadStatement q) h k = absurd (wrong_file bytes q h.0 h.1 k.2 h.2.1)
schema_fault bytes faults.WrongSchema h k = refl
schema_fault bytes (faults.TooMany many.Instances) h k = absurd (not_named bytes h.0 h.1 k.0 h.2 h.3 k.1)
schema_fault bytes (faults.TooMany many.Values) h k = absurd (not_named bytes h.0 h.1 k.0 h.2 h.3 k.1)
schema_fault bytes (faults.DoubleId q) h k = absurd (not_named bytes h.0 h.1 k.0 h.2 h.3 k.1)
schema_fault bytes g h k = absurd k

instances_fault : (bytes : List ℕ) (g : UploadFault) → HasFault bytes (faults.TooMany many.Instances) → HasFault bytes g → faults.TooMany many.Instances ≡ g
instances_fault bytes (faults.TooMany many.Bytes) h k = absurd (omega (arith, k, h.1.1.0))
instances_fault bytes faults.NotPart21 h k = absurd (k.1 (file_begins bytes h.1.0 h.0 h.1.1.1))
instances_fault bytes (faults.BadToken q) h k = absurd (none_file bytes q h.1.0 h.0 k.2 h.1.1.1)
instances_fault bytes (faults.BadStatement q) h k = absurd (wrong_file bytes q h.1.0 h.0 k.2 h.1.1.1)
instances_fault bytes faults.WrongSchema h k = absurd (not_named bytes k.0 k.1 h.0 k.2 k.3 h.1)
instances_fault bytes (faults.TooMany many.Instances) h k = refl
instances_fault bytes (faults.TooMany many.Values) h k = absurd (omega (arith, h.2, k.2, same_length h.0 k.0 (one_found bytes h.0 k.0 h.1 k.1)))
instances_fault bytes (faults.DoubleId q) h k = absurd (omega (arith, h.2, k.2, same_length h.0 k.0 (one_found bytes h.0 k.0 h.1 k.1)))
instances_fault bytes g h k = absurd k

values_fault : (bytes : List ℕ) (g : UploadFault) → HasFault bytes (faults.TooMany many.Values) → HasFault bytes g → faults.TooMany many.Values ≡ g
values_fault bytes (faults.TooMany many.Bytes) h k = absurd (omega (arith, k, h.1.1.0))
values_fault bytes faults.NotPart21 h k = absurd (k.1 (file_begins bytes h.1.0 h.0 h.1.1.1))
values_fault bytes (faults.BadToken q) h k = absurd (none_file bytes q h.1.0 h.0 k.2 h.1.1.1)
values_fault bytes (faults.BadStatement q) h k = absurd (wrong_file bytes q h.1.0 h.0 k.2 h.1.1.1)
values_fault bytes faults.WrongSchema h k = absurd (not_named bytes k.0 k.1 h.0 k.2 k.3 h.1)
values_fault bytes (faults.TooMany many.Instances) h k = absurd (omega (arith, k.2, h.2, same_length k.0 h.0 (one_found bytes k.0 h.0 k.1 h.1)))
values_fault bytes (faults.TooMany many.Values) h k = refl
values_fault bytes (faults.DoubleId q) h k = absurd (omega (arith, h.3, k.3, same_values h.0 k.0 (one_found bytes h.0 k.0 h.1 k.1)))
values_fault bytes g h k = absurd k

double_fault : (bytes : List ℕ) (p : ℕ) (g : UploadFault) → HasFault bytes (faults.DoubleId p) → HasFault bytes g → faults.DoubleId p ≡ g
double_fault bytes p (faults.TooMany many.Bytes) h k = absurd (omega (arith, k, h.1.1.0))
double_fault bytes p faults.NotPart21 h k = absurd (k.1 (file_begins bytes h.1.0 h.0 h.1.1.1))
double_fault bytes p (faults.BadToken q) h k = absurd (none_file bytes q h.1.0 h.0 k.2 h.1.1.1)
double_fault bytes p (faults.BadStatement q) h k = absurd (wrong_file bytes q h.1.0 h.0 k.2 h.1.1.1)
double_fault bytes p faults.WrongSchema h k = absurd (not_named bytes k.0 k.1 h.0 k.2 k.3 h.1)
double_fault bytes p (faults.TooMany many.Instances) h k = absurd (omega (arith, k.2, h.2, same_length k.0 h.0 (one_found bytes k.0 h.0 k.1 h.1)))
double_fault bytes p (faults.TooMany many.Values) h k = absurd (omega (arith, k.3, h.3, same_values k.0 h.0 (one_found bytes k.0 h.0 k.1 h.1)))
double_fault bytes p (faults.DoubleId q) h k = ap faults.DoubleId (one_double bytes h.0 k.0 p q h.1 k.1 h.4 k.4)
double_fault bytes p g h k = absurd k

pub one_fault : (bytes : List ℕ) (f g : UploadFault) → HasFault bytes f → HasFault bytes g → f ≡ g
one_fault bytes (faults.TooMany many.Bytes) g h k = bytes_fault bytes g h k
one_fault bytes faults.NotPart21 g h k = begin_fault bytes g h k
one_fault bytes (faults.BadToken p) g h k = token_fault bytes p g h k
one_fault bytes (faults.BadStatement p) g h k = statement_fault bytes p g h k
one_fault bytes faults.WrongSchema g h k = schema_fault bytes g h k
one_fault bytes (faults.TooMany many.Instances) g h k = instances_fault bytes g h k
one_fault bytes (faults.TooMany many.Values) g h k = values_fault bytes g h k
one_fault bytes (faults.DoubleId p) g h k = double_fault bytes p g h k
one_fault bytes f g h k = absurd h

-- Bytes spell one exchange, as far as what it says.

same_exchange : (bytes : List ℕ) (a b : List Instance) → SpellsExchange bytes a → SpellsExchange bytes b → map saying a ≡ map saying b
same_exchange bytes a b x y =
    let e = one_found bytes x.0 y.0 x.1 y.1 in
    let p = IsPermutation-map saying x.0 a x.2 in
    let q = IsPermutation-map saying y.0 b y.2 in
    let r = IsPermutation-trans (map saying a) (map saying x.0) (map saying b) (IsPermutation-sym (map saying x.0) (map saying a) p) (subst (λ z. IsPermutation z (map saying b)) (sym e) q) in
    same_strict (λ s. s.0) (map saying a) (map saying b) (strict_from a x.5) (strict_from b y.5) r

pub one_exchange : (bytes : List ℕ) (a b : List Instance) → SpellsExchange bytes a → SpellsExchange bytes b → a ≡ b
one_exchange bytes a b x y = same_instances a b (same_exchange bytes a b x y)
