-- The first line, and what it tells of the parser's answers.
use Rattle.std.proofs.Common.{◌≡◌, ℕ, ◌==◌, ◌||◌, ◌&&◌, Bool, true, false, List, [], ◌∷◌, ◌++◌, if◌then◌else◌, Option, Some, None, All, refl, sym, ap, ◌∙◌, append_assoc, inl, inr, subst}
use Rattle.std.specs.Prelude.{IsTrue}
use Rattle.httparse.specs.Grammar.{RequestHead, LineEnd, crlf, lf, print_blank, print_version, print_end, print_section, ReadsRequest, NeverHasRequest, MayBecomeRequest, EndsInTarget, AllPass, is_token_byte, is_uri_byte}
use Rattle.httparse.specs.Pieces.{Stops, is_newline}
use Rattle.std.proofs.lemmas.List.Elements.{All-head, All-tail, All-cons, All-nil, All-append}
use Rattle.std.proofs.lemmas.Bool.{ne_eqb}
use Rattle.httparse.proofs.PieceLemmas.{Stops_token, token_is_no_newline}
use Rattle.httparse.proofs.GrammarLemmas.{print_request-append}
use Rattle.http_frame.specs.Heads.{before, line_at, begins_lf, first_line}

-- ---- a whole line stays

line_step : (c : Bool) (b : ℕ) (o p : Option (List ℕ)) (l : List ℕ) → ((k : List ℕ) → o ≡ Some k → p ≡ Some k)
    → (if c then Some [] else before b o) ≡ Some l → (if c then Some [] else before b p) ≡ Some l
line_step true b o p l f e = e
line_step false b None p l f e = cc
line_step false b (Some k) p l f e = rw (f k refl) e

pub line_more : (bytes more l : List ℕ) → line_at bytes ≡ Some l → line_at (bytes ++ more) ≡ Some l
unfolding line_at
line_more [] more l e = cc
line_more (b ∷ bytes) more l e =
    line_step (b == 10) b (line_at bytes) (line_at (bytes ++ more)) l (λ k. line_more bytes more k) e

pick : (t : Bool) (x y v w : Option (List ℕ)) (l : List ℕ) → (x ≡ Some l → v ≡ Some l) → (y ≡ Some l → w ≡ Some l)
    → (if t then x else y) ≡ Some l → (if t then v else w) ≡ Some l
pick true x y v w l f g e = f e
pick false x y v w l f g e = g e

lone : (c d : Bool) (b : ℕ) (l : List ℕ) → (if c || (d && false) then None else (if c then Some [] else before b None)) ≡ Some l → ⊥
lone true d b l e = cc
lone false true b l e = cc
lone false false b l e = cc

pub first_line_more : (bytes more l : List ℕ) → first_line bytes ≡ Some l → first_line (bytes ++ more) ≡ Some l
unfolding first_line line_at
first_line_more [] more l e = cc
first_line_more (b ∷ []) more l e = absurd (lone (b == 10) (b == 13) b l e)
first_line_more (b ∷ c ∷ bytes) more l e =
    pick (b == 10 || (b == 13 && begins_lf (c ∷ bytes))) (first_line (c ∷ bytes)) (line_at (b ∷ c ∷ bytes))
    (first_line ((c ∷ bytes) ++ more)) (line_at ((b ∷ c ∷ bytes) ++ more)) l
    (first_line_more (c ∷ bytes) more l) (line_more (b ∷ c ∷ bytes) more l) e

-- ---- empty lines are passed over

pub skip_blank : (ends : List LineEnd) (rest : List ℕ) → first_line (print_blank ends ++ rest) ≡ first_line rest
unfolding first_line
skip_blank [] rest = refl
skip_blank (crlf ∷ ends) rest = skip_blank ends rest
skip_blank (lf ∷ ends) rest = skip_blank ends rest

unstopped : (c d : Bool) (x y : Option (List ℕ)) (e : Bool) → c || d ≡ false → (if d || (c && e) then x else y) ≡ y
unstopped true d x y e h = cc
unstopped false true x y e h = cc
unstopped false false x y e h = refl

pub line_here : (text : List ℕ) → Stops is_newline text → first_line text ≡ line_at text
unfolding first_line line_at
line_here [] s = absurd s
line_here (b ∷ bytes) s = unstopped (b == 13) (b == 10) (first_line bytes) (line_at (b ∷ bytes)) (begins_lf bytes) s

-- ---- a head has a whole first line

some_step : (c : Bool) (b : ℕ) (o : Option (List ℕ)) → (l : List ℕ) × (o ≡ Some l) → (l : List ℕ) × ((if c then Some [] else before b o) ≡ Some l)
some_step true b o k = ([], refl)
some_step false b o k = (b ∷ k.0, rw k.1 refl)

pub line_there : (xs rest : List ℕ) → (l : List ℕ) × (line_at (xs ++ 10 ∷ rest) ≡ Some l)
unfolding line_at
line_there [] rest = ([], refl)
line_there (b ∷ xs) rest = some_step (b == 10) b (line_at (xs ++ 10 ∷ rest)) (line_there xs rest)

end_there : (end : LineEnd) (xs rest : List ℕ) → (ys : List ℕ) × (zs : List ℕ) × (xs ++ (print_end end ++ rest) ≡ ys ++ 10 ∷ zs)
end_there crlf xs rest = (xs ++ 13 ∷ [], rest, sym (append_assoc xs (13 ∷ []) (10 ∷ rest)))
end_there lf xs rest = (xs, rest, refl)

pub head_line : (bytes : List ℕ) (h : RequestHead) (rest : List ℕ) → ReadsRequest bytes h rest → (l : List ℕ) × (first_line bytes ≡ Some l)
head_line bytes h rest reads =
    let tail = print_section h.fields h.last ++ rest in
    let text = h.method ++ 32 ∷ (h.target ++ 32 ∷ (print_version h.minor ++ (print_end h.line_end ++ tail))) in
    let whole : bytes ≡ print_blank h.blank ++ text = reads.1 ∙ print_request-append h rest in
    let stops : Stops is_newline text = Stops_token h.method _ reads.0.method.0 reads.0.method.1 in
    let front = h.method ++ 32 ∷ (h.target ++ 32 ∷ print_version h.minor) in
    let regroup : text ≡ front ++ (print_end h.line_end ++ tail) = grouped h.method h.target (print_version h.minor) (print_end h.line_end ++ tail) in
    let found = end_there h.line_end front tail in
    let line = line_there found.0 found.1 in
    (line.0, ap first_line whole ∙ skip_blank h.blank text ∙ line_here text stops ∙ ap line_at (regroup ∙ found.2) ∙ line.1)
  where
    grouped : (a b c d : List ℕ) → a ++ 32 ∷ (b ++ 32 ∷ (c ++ d)) ≡ (a ++ 32 ∷ (b ++ 32 ∷ c)) ++ d
    grouped a b c d = sym (append_assoc a (32 ∷ (b ++ 32 ∷ c)) d ∙ ap (λ x. a ++ 32 ∷ x) (append_assoc b (32 ∷ c) d))

-- ---- bytes that end in a target have no whole first line

none_step : (c : Bool) (b : ℕ) (o : Option (List ℕ)) → c ≡ false → o ≡ None → (if c then Some [] else before b o) ≡ None
none_step true b o k n = cc
none_step false b o k n = rw n refl

line_none : (xs : List ℕ) → All (λ b. (b == 10) ≡ false) xs → line_at xs ≡ None
unfolding line_at
line_none [] all = refl
line_none (b ∷ xs) all =
    none_step (b == 10) b (line_at xs) (All-head (λ v. (v == 10) ≡ false) b xs all) (line_none xs (All-tail (λ v. (v == 10) ≡ false) b xs all))

ored : (c d : Bool) → c || d ≡ false → d ≡ false
ored true d e = cc
ored false d e = e

pub token_no_lf : (xs : List ℕ) → AllPass is_token_byte xs → All (λ b. (b == 10) ≡ false) xs
token_no_lf [] all = All-nil (λ v. (v == 10) ≡ false)
token_no_lf (b ∷ xs) all =
    All-cons (λ v. (v == 10) ≡ false) b xs
    (ored (b == 13) (b == 10) (token_is_no_newline b (All-head (λ v. IsTrue (is_token_byte v)) b xs all)))
    (token_no_lf xs (All-tail (λ v. IsTrue (is_token_byte v)) b xs all))

uri_step : (b : ℕ) → IsTrue (is_uri_byte b) → (b == 10) ≡ false
uri_step b pass = ne_eqb b 10 (λ e. uri_ten b e pass)
  where
    uri_ten : (b : ℕ) → b ≡ 10 → IsTrue (is_uri_byte b) → ⊥
    uri_ten b e pass = let bad : false ≡ true = subst (λ (v : ℕ). IsTrue (is_uri_byte v)) e pass in cc

pub uri_no_lf : (xs : List ℕ) → AllPass is_uri_byte xs → All (λ b. (b == 10) ≡ false) xs
uri_no_lf [] all = All-nil (λ v. (v == 10) ≡ false)
uri_no_lf (b ∷ xs) all =
    All-cons (λ v. (v == 10) ≡ false) b xs (uri_step b (All-head (λ v. IsTrue (is_uri_byte v)) b xs all))
    (uri_no_lf xs (All-tail (λ v. IsTrue (is_uri_byte v)) b xs all))

pub target_no_line : (bytes : List ℕ) → EndsInTarget bytes → first_line bytes ≡ None
target_no_line bytes (blank, method, target, token, uri, whole) =
    let text = method ++ 32 ∷ target in
    let none : All (λ b. (b == 10) ≡ false) text =
    All-append (λ v. (v == 10) ≡ false) method (32 ∷ target) (token_no_lf method token.1)
    (All-cons (λ v. (v == 10) ≡ false) 32 target refl (uri_no_lf target uri)) in
    ap first_line (whole ∙ append_assoc (print_blank blank) method (32 ∷ target)) ∙ skip_blank blank text ∙ line_here text (Stops_token method (32 ∷ target) token.0 token.1) ∙ line_none text none

-- after an unfinished answer, with a whole first line, some continuation is a head
pub may_is_head : (bytes l : List ℕ) → first_line bytes ≡ Some l → MayBecomeRequest bytes
    → (more : List ℕ) × (h : RequestHead) × ReadsRequest (bytes ++ more) h []
may_is_head bytes l line (inl head) = head
may_is_head bytes l line (inr target) = let none = target_no_line bytes target in let bad : None ≡ Some l = sym none ∙ line in cc

-- so such bytes are not hopeless
pub may_is_hope : (bytes l : List ℕ) → first_line bytes ≡ Some l → MayBecomeRequest bytes → NeverHasRequest bytes → ⊥
may_is_hope bytes l line may never = let head = may_is_head bytes l line may in never head.0 head.1 [] head.2
