-- A file has one reading: its statements and its instances.
use Rattle.std.proofs.Common.{◌≡◌, ℕ, List, [], ◌∷◌, ◌++◌, map, Option, Some, None, refl, sym, ap, subst, ◌∙◌, append_assoc}
use Rattle.p21_lexer.specs.declared.token.Token.{Token}
use Rattle.p21_lexer.specs.Cutting.{start_of}
use Rattle.p21_values.specs.declared.value.Value21.{Value21}
use Rattle.p21_values.specs.declared.value.Instance.{Instance}
use Rattle.p21_values.specs.Grammar.{Class, Name, Open, Semi, Word, Iso, Header, Data, EndSec, EndIso, Sign, Body, Inside, file}
use Rattle.p21_reader.specs.Machine.{run, step}
use Rattle.p21_values.specs.Lexemes.{Lexeme, Opening, Closing, Ending, Assigning, KeywordOf, ReferenceTo, lexeme_of, class_of, Cuts, classes}
use Rattle.p21_values.specs.Printing.{print_all}
use Rattle.p21_reader.specs.Instances.{SpellsBody, SpellsInstance, SpellsAll}
use Rattle.p21_reader.specs.ExchangeFiles.{HoldsFile}
use Rattle.p21_reader.specs.Schema.{Statement, SpellsStatement, SpellsStatements, SpellsHeading}
use Rattle.p21_reader.proofs.Steps.{classes_append}
use Rattle.p21_values.specs.inner.Saying.{content, contents, saying}
use Rattle.p21_reader.proofs.Viable.{bind_is, complete, file_iff}
use Rattle.p21_values.proofs.Tokens.{one_token}
use Rattle.p21_values.proofs.SameSaying.{same_instances}
use Rattle.p21_values.proofs.Spelled.{spell_all, print_all_is, one_all, seam}

-- A list of tokens that the table leads through to its end ends nowhere else.

ended : (σ : List Sign) (c : Class) (xs : List Class) → run σ [] ≡ Some [] → run σ (c ∷ xs) ≡ Some [] → ⊥
ended [] c xs r q = cc
ended (s ∷ σ) c xs r q = cc

same_step : (σ : List Sign) (l m : Lexeme) (xs ys : List Class) → run σ (class_of l ∷ xs) ≡ Some [] → run σ (class_of m ∷ ys) ≡ Some [] → l ≡ m → (β : List Sign) × (run β xs ≡ Some []) × (run β ys ≡ Some [])
same_step σ l m xs ys r q e =
    let a = bind_is (step σ (class_of l)) (λ β. run β xs) [] r in
    let b = bind_is (step σ (class_of m)) (λ β. run β ys) [] q in
    let f : Some a.0 ≡ Some b.0 = sym a.1 ∙ ap (λ x. step σ (class_of x)) e ∙ b.1 in
    let g : a.0 ≡ b.0 = cc in
    (a.0, a.2, ap (λ β. run β ys) g ∙ b.2)

-- of two lists that the table leads through to its end, with others after them, that are alike
one_front : (σ : List Sign) (ls ms x y : List Lexeme) → run σ (classes ls) ≡ Some [] → run σ (classes ms) ≡ Some [] → ls ++ x ≡ ms ++ y → (ls ≡ ms) × (x ≡ y)
one_front σ [] [] x y r q e = (refl, e)
one_front σ [] (m ∷ ms) x y r q e = absurd (ended σ (class_of m) (classes ms) r q)
one_front σ (l ∷ ls) [] x y r q e = absurd (ended σ (class_of l) (classes ls) q r)
one_front σ (l ∷ ls) (m ∷ ms) x y r q e =
    let same : l ≡ m = cc in
    let rest : ls ++ x ≡ ms ++ y = cc in
    let t = same_step σ l m (classes ls) (classes ms) r q same in
    let more = one_front t.0 ls ms x y t.1 t.2 rest in
    (ap (λ z. l ∷ z) more.0 ∙ ap (λ z. z ∷ ms) same, more.1)

pub one_list : (σ : List Sign) (bytes : List ℕ) (at mid end : ℕ) (ls ms : List Lexeme) → Cuts bytes at ls mid → Cuts bytes at ms end → run σ (classes ls) ≡ Some [] → run σ (classes ms) ≡ Some [] → ls ≡ ms
one_list σ bytes at mid end [] [] h k r q = refl
one_list σ bytes at mid end [] (m ∷ ms) h k r q = absurd (ended σ (class_of m) (classes ms) r q)
one_list σ bytes at mid end (l ∷ ls) [] h k r q = absurd (ended σ (class_of l) (classes ls) q r)
one_list σ bytes at mid end (l ∷ ls) (m ∷ ms) h k r q =
    let e : h.0 ≡ k.0 = one_token bytes at h.0 k.0 h.1 k.1 in
    let same : l ≡ m = sym h.2 ∙ ap (λ (t : Token). lexeme_of bytes t) e ∙ k.2 in
    let rest : Cuts bytes h.0.end ms end = (let P : Token → Type 0 = λ t. Cuts bytes t.end ms end in subst P (sym e) k.3) in
    let t = same_step σ l m (classes ls) (classes ms) r q same in
    ap (λ z. l ∷ z) (one_list t.0 bytes h.0.end mid end ls ms h.3 rest t.1 t.2) ∙ ap (λ z. z ∷ ms) same

-- Tokens begin with one instance at most.

one_body : (k j : Option (List ℕ)) (vs us : List Value21) (ls ms x y : List Lexeme) → SpellsBody k vs ls → SpellsBody j us ms → ls ++ x ≡ ms ++ y → (k ≡ j) × (contents (map content vs) ≡ contents (map content us)) × (x ≡ y)
one_body (Some k) (Some j) vs us ls ms x y h g e =
    let a : ls ≡ KeywordOf k ∷ Opening ∷ (spell_all (contents (map content vs)) ++ Closing ∷ []) = h ∙ ap (λ z. KeywordOf k ∷ Opening ∷ (z ++ Closing ∷ [])) (print_all_is vs) in
    let b : ms ≡ KeywordOf j ∷ Opening ∷ (spell_all (contents (map content us)) ++ Closing ∷ []) = g ∙ ap (λ z. KeywordOf j ∷ Opening ∷ (z ++ Closing ∷ [])) (print_all_is us) in
    let f : KeywordOf k ∷ Opening ∷ ((spell_all (contents (map content vs)) ++ Closing ∷ []) ++ x) ≡ KeywordOf j ∷ Opening ∷ ((spell_all (contents (map content us)) ++ Closing ∷ []) ++ y) =
    sym (ap (λ z. z ++ x) a) ∙ e ∙ ap (λ z. z ++ y) b in
    let w : k ≡ j = cc in
    let t : (spell_all (contents (map content vs)) ++ Closing ∷ []) ++ x ≡ (spell_all (contents (map content us)) ++ Closing ∷ []) ++ y = cc in
    let r = one_all (contents (map content vs)) (contents (map content us)) x y (seam (spell_all (contents (map content vs))) (Closing ∷ []) x (spell_all (contents (map content us))) (Closing ∷ []) y t) in
    (ap (λ (z : List ℕ). Some z) w, r.0, r.1)
one_body (Some k) None vs us ls ms x y h g e =
    absurd (let f : KeywordOf k ∷ Opening ∷ ((print_all vs ++ Closing ∷ []) ++ x) ≡ Opening ∷ (g.1 ++ y) = sym (ap (λ z. z ++ x) h) ∙ e ∙ ap (λ z. z ++ y) g.2 in cc)
one_body None (Some j) vs us ls ms x y h g e =
    absurd (let f : Opening ∷ (h.1 ++ x) ≡ KeywordOf j ∷ Opening ∷ ((print_all us ++ Closing ∷ []) ++ y) = sym (ap (λ z. z ++ x) h.2) ∙ e ∙ ap (λ z. z ++ y) g in cc)
one_body None None vs us ls ms x y h g e = (
  refl,
  ap (λ z. contents (map content z)) (h.0 ∙ sym g.0),
  (one_front (Body ∷ []) ls ms x y (complete (Body ∷ []) (classes ls) h.3) (complete (Body ∷ []) (classes ms) g.3) e).1,
)

-- an instance's tokens, with others after them
opened : (i : Instance) (ls x : List Lexeme) (h : SpellsInstance i ls) → ls ++ x ≡ ReferenceTo i.id ∷ Assigning ∷ (h.body ++ (Ending ∷ x))
opened i ls x h = ap (λ z. z ++ x) h.whole ∙ ap (λ z. ReferenceTo i.id ∷ Assigning ∷ z) (append_assoc h.body (Ending ∷ []) x)

one_instance : (i j : Instance) (ls ms x y : List Lexeme) → SpellsInstance i ls → SpellsInstance j ms → ls ++ x ≡ ms ++ y → (saying i ≡ saying j) × (x ≡ y)
one_instance i j ls ms x y h g e =
    let f : ReferenceTo i.id ∷ Assigning ∷ (h.body ++ (Ending ∷ x)) ≡ ReferenceTo j.id ∷ Assigning ∷ (g.body ++ (Ending ∷ y)) = sym (opened i ls x h) ∙ e ∙ opened j ms y g in
    let n : i.id ≡ j.id = cc in
    let t : h.body ++ (Ending ∷ x) ≡ g.body ++ (Ending ∷ y) = cc in
    let r = one_body i.keyword j.keyword i.values j.values h.body g.body (Ending ∷ x) (Ending ∷ y) h.is_body g.is_body t in
    let z : Ending ∷ x ≡ Ending ∷ y = r.2 in
    (λ k. (n k, r.0 k, r.1 k), cc)

no_instance : (i : Instance) (is : List Instance) (ls x y : List Lexeme) (rest : List Class) → SpellsAll (i ∷ is) ls → classes x ≡ Word EndSec ∷ rest → x ≡ ls ++ y → ⊥
no_instance i is ls x y rest h c e =
    let f : x ≡ ReferenceTo i.id ∷ Assigning ∷ (h.2.body ++ (Ending ∷ (h.1 ++ y))) = e ∙ ap (λ z. z ++ y) h.3 ∙ append_assoc h.0 h.1 y ∙ opened i h.0 (h.1 ++ y) h.2 in
    let g : Name ∷ classes (Assigning ∷ (h.2.body ++ (Ending ∷ (h.1 ++ y)))) ≡ Word EndSec ∷ rest = sym (ap classes f) ∙ c in
    cc

one_data : (is js : List Instance) (ls ms x y : List Lexeme) (rest : List Class) → SpellsAll is ls → SpellsAll js ms → classes x ≡ Word EndSec ∷ rest → classes y ≡ Word EndSec ∷ rest → ls ++ x ≡ ms ++ y → map saying is ≡ map saying js
one_data [] [] ls ms x y rest h k c d e = refl
one_data [] (j ∷ js) ls ms x y rest h k c d e = absurd (no_instance j js ms x y rest k c (sym (ap (λ z. z ++ x) h) ∙ e))
one_data (i ∷ is) [] ls ms x y rest h k c d e = absurd (no_instance i is ls y x rest h d (sym (ap (λ z. z ++ y) k) ∙ sym e))
one_data (i ∷ is) (j ∷ js) ls ms x y rest h k c d e =
    let f : h.0 ++ (h.1 ++ x) ≡ k.0 ++ (k.1 ++ y) = seam h.0 h.1 x k.0 k.1 y (sym (ap (λ z. z ++ x) h.3) ∙ e ∙ ap (λ z. z ++ y) k.3) in
    let r = one_instance i j h.0 k.0 (h.1 ++ x) (k.1 ++ y) h.2 k.2 f in
    ap (λ z. z ∷ map saying is) r.0 ∙ ap (λ z. saying j ∷ z) (one_data is js h.1 k.1 x y rest h.4 k.4 c d r.1)

-- Tokens begin with one list of statements at most, after which ENDSEC and a semicolon stand.

one_statement : (s t : Statement) (ls ms x y : List Lexeme) → SpellsStatement s ls → SpellsStatement t ms → ls ++ x ≡ ms ++ y → (s ≡ t) × (x ≡ y)
one_statement s t ls ms x y h g e =
    let f : KeywordOf s.keyword ∷ Opening ∷ (s.values ++ Ending ∷ x) ≡ KeywordOf t.keyword ∷ Opening ∷ (t.values ++ Ending ∷ y) = sym (stated s ls x h) ∙ e ∙ stated t ms y g in
    let w : s.keyword ≡ t.keyword = cc in
    let rest : s.values ++ Ending ∷ x ≡ t.values ++ Ending ∷ y = cc in
    let r = one_front (Inside None ∷ []) s.values t.values (Ending ∷ x) (Ending ∷ y) (complete (Inside None ∷ []) (classes s.values) h.1) (complete (Inside None ∷ []) (classes t.values) g.1) rest in
    let z : Ending ∷ x ≡ Ending ∷ y = r.1 in
    (λ i. record { keyword = w i; values = r.0 i }, cc)
  where
    stated : (s : Statement) (ls x : List Lexeme) → SpellsStatement s ls → ls ++ x ≡ KeywordOf s.keyword ∷ Opening ∷ (s.values ++ Ending ∷ x)
    stated s ls x h = ap (λ z. z ++ x) h.0 ∙ ap (λ z. KeywordOf s.keyword ∷ Opening ∷ z) (append_assoc s.values (Ending ∷ []) x)

no_statement : (s : Statement) (ss : List Statement) (ls x y : List Lexeme) (rest : List Class) → SpellsStatements (s ∷ ss) ls → classes x ≡ Word EndSec ∷ Semi ∷ rest → x ≡ ls ++ y → ⊥
no_statement s ss ls x y rest h c e =
    let f : x ≡ KeywordOf s.keyword ∷ Opening ∷ ((s.values ++ Ending ∷ []) ++ (h.1 ++ y)) = e ∙ ap (λ z. z ++ y) h.3 ∙ append_assoc h.0 h.1 y ∙ ap (λ z. z ++ (h.1 ++ y)) h.2.0 in
    let g : class_of (KeywordOf s.keyword) ∷ Open ∷ classes ((s.values ++ Ending ∷ []) ++ (h.1 ++ y)) ≡ Word EndSec ∷ Semi ∷ rest = sym (ap classes f) ∙ c in
    let k : Open ∷ classes ((s.values ++ Ending ∷ []) ++ (h.1 ++ y)) ≡ Semi ∷ rest = cc in
    cc

one_statements : (ss ts : List Statement) (ls ms x y : List Lexeme) (p q : List Class) → SpellsStatements ss ls → SpellsStatements ts ms → classes x ≡ Word EndSec ∷ Semi ∷ p → classes y ≡ Word EndSec ∷ Semi ∷ q
    → ls ++ x ≡ ms ++ y → (ss ≡ ts) × (x ≡ y)
one_statements [] [] ls ms x y p q h k c d e = (refl, sym (ap (λ z. z ++ x) h) ∙ e ∙ ap (λ z. z ++ y) k)
one_statements [] (t ∷ ts) ls ms x y p q h k c d e = absurd (no_statement t ts ms x y p k c (sym (ap (λ z. z ++ x) h) ∙ e))
one_statements (s ∷ ss) [] ls ms x y p q h k c d e = absurd (no_statement s ss ls y x q h d (sym (ap (λ z. z ++ y) k) ∙ sym e))
one_statements (s ∷ ss) (t ∷ ts) ls ms x y p q h k c d e =
    let f : h.0 ++ (h.1 ++ x) ≡ k.0 ++ (k.1 ++ y) = seam h.0 h.1 x k.0 k.1 y (sym (ap (λ z. z ++ x) h.3) ∙ e ∙ ap (λ z. z ++ y) k.3) in
    let r = one_statement s t h.0 k.0 (h.1 ++ x) (k.1 ++ y) h.2 k.2 f in
    let m = one_statements ss ts h.1 k.1 x y p q h.4 k.4 c d r.1 in
    (ap (λ z. z ∷ ss) r.0 ∙ ap (λ z. t ∷ z) m.0, m.1)

-- lists of one length, with others after them
one_length : (ls ms x y : List Lexeme) (cs : List Class) → classes ls ≡ cs → classes ms ≡ cs → ls ++ x ≡ ms ++ y → x ≡ y
one_length [] [] x y cs h k e = e
one_length [] (m ∷ ms) x y cs h k e = absurd (let f : classes (m ∷ ms) ≡ [] = k ∙ sym h in cc)
one_length (l ∷ ls) [] x y cs h k e = absurd (let f : classes (l ∷ ls) ≡ [] = h ∙ sym k in cc)
one_length (l ∷ ls) (m ∷ ms) x y cs h k e =
    let f : class_of l ∷ classes ls ≡ class_of m ∷ classes ms = h ∙ sym k in
    let g : classes ls ≡ classes ms = cc in
    let rest : ls ++ x ≡ ms ++ y = cc in
    one_length ls ms x y (classes ms) g refl rest

closed : (ls x : List Lexeme) → classes ls ≡ Word EndSec ∷ Semi ∷ Word Data ∷ Semi ∷ [] → classes (ls ++ x) ≡ Word EndSec ∷ Semi ∷ Word Data ∷ Semi ∷ classes x
closed ls x h = classes_append ls x ∙ ap (λ z. z ++ classes x) h

one_heading : (ss ts : List Statement) (ls ms x y : List Lexeme) → SpellsHeading ss ls → SpellsHeading ts ms → ls ++ x ≡ ms ++ y → (ss ≡ ts) × (x ≡ y)
one_heading ss ts ls ms x y h k e =
    let f : h.opening ++ ((h.middle ++ h.closing) ++ x) ≡ k.opening ++ ((k.middle ++ k.closing) ++ y) = seam h.opening (h.middle ++ h.closing) x k.opening (k.middle ++ k.closing) y (sym (ap (λ z. z ++ x) h.whole) ∙ e ∙ ap (λ z. z ++ y) k.whole) in
    let g = one_length h.opening k.opening ((h.middle ++ h.closing) ++ x) ((k.middle ++ k.closing) ++ y) (Word Iso ∷ Semi ∷ Word Header ∷ Semi ∷ []) h.is_opening k.is_opening f in
    let r = one_statements ss ts h.middle k.middle (h.closing ++ x) (k.closing ++ y) (Word Data ∷ Semi ∷ classes x) (Word Data ∷ Semi ∷ classes y) h.spelled k.spelled (closed h.closing x h.is_closing) (closed k.closing y k.is_closing)
    (sym (append_assoc h.middle h.closing x) ∙ g ∙ append_assoc k.middle k.closing y) in
    (r.0, one_length h.closing k.closing x y (Word EndSec ∷ Semi ∷ Word Data ∷ Semi ∷ []) h.is_closing k.is_closing r.1)

-- Bytes hold one file at most.

one_said : (bytes : List ℕ) (s t : List Statement) (a b : List Instance) (h : HoldsFile bytes s a) (k : HoldsFile bytes t b) → h.said ≡ k.said
one_said bytes s t a b h k = one_list file bytes (start_of bytes) h.end k.end h.said k.said h.cuts k.cuts ((file_iff (classes h.said)).0 h.spells.is_file) ((file_iff (classes k.said)).0 k.spells.is_file)

both : (bytes : List ℕ) (s t : List Statement) (a b : List Instance) (h : HoldsFile bytes s a) (k : HoldsFile bytes t b)
    → (s ≡ t) × (h.spells.data_section ++ h.spells.closing ≡ k.spells.data_section ++ k.spells.closing)
both bytes s t a b h k =
    one_heading s t h.spells.heading k.spells.heading (h.spells.data_section ++ h.spells.closing) (k.spells.data_section ++ k.spells.closing) h.spells.headed k.spells.headed
    (sym h.spells.whole ∙ one_said bytes s t a b h k ∙ k.spells.whole)

pub one_header : (bytes : List ℕ) (s t : List Statement) (a b : List Instance) → HoldsFile bytes s a → HoldsFile bytes t b → s ≡ t
one_header bytes s t a b h k = (both bytes s t a b h k).0

pub one_saying : (bytes : List ℕ) (s t : List Statement) (a b : List Instance) → HoldsFile bytes s a → HoldsFile bytes t b → map saying a ≡ map saying b
one_saying bytes s t a b h k =
    one_data a b h.spells.data_section k.spells.data_section h.spells.closing k.spells.closing (Semi ∷ Word EndIso ∷ Semi ∷ []) h.spells.spelled k.spells.spelled h.spells.is_closing k.spells.is_closing (both bytes s t a b h k).1

pub one_reading : (bytes : List ℕ) (s t : List Statement) (a b : List Instance) → HoldsFile bytes s a → HoldsFile bytes t b → a ≡ b
one_reading bytes s t a b h k = same_instances a b (one_saying bytes s t a b h k)
