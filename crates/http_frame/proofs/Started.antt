-- From the field lines to the head.
use Rattle.std.proofs.Common.{◌≡◌, ℕ, ◌+◌, ◌≤◌, ◌==◌, ◌||◌, ◌&&◌, Bool, true, false, List, [], ◌∷◌, ◌++◌, if◌then◌else◌, Option, Some, None, All, refl, sym, ap, ◌∙◌, arith, append_assoc, subst}
use Rattle.std.proofs.lemmas.List.{append_cancel_right}
use Rattle.std.proofs.lemmas.List.Elements.{All-head, All-tail}
use Rattle.std.proofs.lemmas.Bool.{ne_eqb}
use Rattle.std.proofs.Math.Logic.{∥∥₁_map}
use Rattle.std.proofs.lemmas.Grind.{not_there}
use Rattle.httparse.specs.Grammar.{LineEnd, crlf, lf, print_end, print_blank, print_version, ReadsSection, HasNoRequest, NeverHasRequest, MayBecomeRequest}
use Rattle.httparse.specs.Pieces.{RequestStart, Stops, is_newline}
use Rattle.httparse.proofs.PieceLemmas.{RequestStart_deterministic, Stops_token}
use Rattle.httparse.proofs.GrammarLemmas.{request_pieces, request_from_pieces, request_tree, request_head}
use Rattle.http_frame.specs.declared.field_lines.Place.TheVariants.{Start}
use Rattle.http_frame.specs.Heads.{before, begins_lf, line_at, first_line}
use Rattle.http_frame.specs.Scan.{run, IsOpen, after_lf, after_line, Parts, IsStarted}
use Rattle.http_frame.proofs.Lines.{token_no_lf, uri_no_lf, may_is_head}
use Rattle.http_frame.proofs.Scanned.{open_may, open_none}

-- ---- the bytes after the first line

after_blank : (ends : List LineEnd) (rest : List ℕ) → after_line (print_blank ends ++ rest) ≡ after_line rest
unfolding after_line
after_blank [] rest = refl
after_blank (crlf ∷ ends) rest = after_blank ends rest
after_blank (lf ∷ ends) rest = after_blank ends rest

unstopped : (c d : Bool) (x y : List ℕ) (e : Bool) → c || d ≡ false → (if d || (c && e) then x else y) ≡ y
unstopped true d x y e h = cc
unstopped false true x y e h = cc
unstopped false false x y e h = refl

after_here : (text : List ℕ) → Stops is_newline text → after_line text ≡ after_lf text
unfolding after_line
after_here [] s = absurd s
after_here (b ∷ bytes) s = unstopped (b == 13) (b == 10) (after_line bytes) (after_lf (b ∷ bytes)) (begins_lf bytes) s

pass_step : (c : Bool) (x y : List ℕ) → c ≡ false → (if c then x else y) ≡ y
pass_step true x y e = cc
pass_step false x y e = refl

after_run : (xs rest : List ℕ) → All (λ b. (b == 10) ≡ false) xs → after_lf (xs ++ rest) ≡ after_lf rest
after_run [] rest all = refl
after_run (b ∷ xs) rest all =
    pass_step (b == 10) (xs ++ rest) (after_lf (xs ++ rest)) (All-head (λ v. (v == 10) ≡ false) b xs all)
    ∙ after_run xs rest (All-tail (λ v. (v == 10) ≡ false) b xs all)

after_version : (minor : ℕ) (rest : List ℕ) → minor ≤ 1 → after_lf (print_version minor ++ rest) ≡ after_lf rest
after_version minor rest small = pass_step (48 + minor == 10) rest (after_lf rest) (ne_eqb (48 + minor) 10 (λ e. omega arith))

after_end : (e : LineEnd) (rest : List ℕ) → after_lf (print_end e ++ rest) ≡ rest
after_end crlf rest = refl
after_end lf rest = refl

pub after_start : (p : Parts) (bytes rest : List ℕ) → RequestStart p bytes rest → after_line bytes ≡ rest
after_start p bytes rest (m1, (blank, stops), (m2, (some, token, e2), (m3, ((long, uri, e3), text), (m4, (small, e4), e5)))) =
    ap after_line blank ∙ after_blank p.0 m1 ∙ after_here m1 stops ∙ ap after_lf e2 ∙ after_run p.1.0 (32 ∷ m2) (token_no_lf p.1.0 token)
    ∙ ap after_lf e3 ∙ after_run p.1.1.0 (32 ∷ m3) (uri_no_lf p.1.1.0 uri)
    ∙ ap after_lf e4 ∙ after_version p.1.1.1.0 m4 small ∙ ap after_lf e5 ∙ after_end p.1.1.1.1 rest

-- ---- what stays

lf_step : (c : Bool) (b : ℕ) (o : Option (List ℕ)) (l xs ys more zs : List ℕ) → ((k : List ℕ) → o ≡ Some k → zs ≡ ys ++ more)
    → (if c then Some [] else before b o) ≡ Some l → (if c then xs ++ more else zs) ≡ (if c then xs else ys) ++ more
lf_step true b o l xs ys more zs f e = refl
lf_step false b None l xs ys more zs f e = cc
lf_step false b (Some k) l xs ys more zs f e = f k refl

after_lf_more : (bytes more l : List ℕ) → line_at bytes ≡ Some l → after_lf (bytes ++ more) ≡ after_lf bytes ++ more
unfolding line_at
after_lf_more [] more l e = cc
after_lf_more (b ∷ bytes) more l e =
    lf_step (b == 10) b (line_at bytes) l bytes (after_lf bytes) more (after_lf (bytes ++ more)) (λ k. after_lf_more bytes more k) e

lone : (c d : Bool) (b : ℕ) (l : List ℕ) → (if c || (d && false) then None else (if c then Some [] else before b None)) ≡ Some l → ⊥
lone true d b l e = cc
lone false true b l e = cc
lone false false b l e = cc

pick : (t : Bool) (x y : Option (List ℕ)) (v w a b more l : List ℕ) → (x ≡ Some l → v ≡ a ++ more) → (y ≡ Some l → w ≡ b ++ more)
    → (if t then x else y) ≡ Some l → (if t then v else w) ≡ (if t then a else b) ++ more
pick true x y v w a b more l f g e = f e
pick false x y v w a b more l f g e = g e

pub after_more : (bytes more l : List ℕ) → first_line bytes ≡ Some l → after_line (bytes ++ more) ≡ after_line bytes ++ more
unfolding first_line line_at after_line
after_more [] more l e = cc
after_more (b ∷ []) more l e = absurd (lone (b == 10) (b == 13) b l e)
after_more (b ∷ c ∷ bytes) more l e =
    pick (b == 10 || (b == 13 && begins_lf (c ∷ bytes))) (first_line (c ∷ bytes)) (line_at (b ∷ c ∷ bytes))
    (after_line ((c ∷ bytes) ++ more)) (after_lf ((b ∷ c ∷ bytes) ++ more)) (after_line (c ∷ bytes)) (after_lf (b ∷ c ∷ bytes)) more l
    (after_more (c ∷ bytes) more l) (after_lf_more (b ∷ c ∷ bytes) more l) e

-- ---- a first line of the grammar

abbrev print_start : Parts → List ℕ
print_start p = print_blank p.0 ++ (p.1.0 ++ 32 ∷ (p.1.1.0 ++ 32 ∷ (print_version p.1.1.1.0 ++ print_end p.1.1.1.1)))

grouped : (a b c d e f : List ℕ) → a ++ (b ++ 32 ∷ (c ++ 32 ∷ (d ++ (e ++ f)))) ≡ (a ++ (b ++ 32 ∷ (c ++ 32 ∷ (d ++ e)))) ++ f
grouped a b c d e f =
    sym (append_assoc a (b ++ 32 ∷ (c ++ 32 ∷ (d ++ e))) f ∙ ap (λ x. a ++ x) (append_assoc b (32 ∷ (c ++ 32 ∷ (d ++ e))) f
    ∙ ap (λ x. b ++ 32 ∷ x) (append_assoc c (32 ∷ (d ++ e)) f ∙ ap (λ x. c ++ 32 ∷ x) (append_assoc d e f))))

start_text : (p : Parts) (bytes rest : List ℕ) → RequestStart p bytes rest → bytes ≡ print_start p ++ rest
start_text p bytes rest (m1, (blank, stops), (m2, (some, token, e2), (m3, ((long, uri, e3), text), (m4, (small, e4), e5)))) =
    blank ∙ ap (λ x. print_blank p.0 ++ x) (e2 ∙ ap (λ x. p.1.0 ++ 32 ∷ x) (e3 ∙ ap (λ x. p.1.1.0 ++ 32 ∷ x) (e4 ∙ ap (λ x. print_version p.1.1.1.0 ++ x) e5)))
    ∙ grouped (print_blank p.0) p.1.0 p.1.1.0 (print_version p.1.1.1.0) (print_end p.1.1.1.1) rest

start_again : (p : Parts) (bytes rest other : List ℕ) → RequestStart p bytes rest → RequestStart p (print_start p ++ other) other
start_again p bytes rest other (m1, (blank, stops), (m2, (some, token, e2), (m3, ((long, uri, e3), text), (m4, (small, e4), e5)))) =
    let v = print_version p.1.1.1.0 ++ (print_end p.1.1.1.1 ++ other) in (
      p.1.0 ++ 32 ∷ (p.1.1.0 ++ 32 ∷ v),
      (sym (grouped (print_blank p.0) p.1.0 p.1.1.0 (print_version p.1.1.1.0) (print_end p.1.1.1.1) other), Stops_token p.1.0 _ some token),
      (p.1.1.0 ++ 32 ∷ v, (some, token, refl), (v, ((long, uri, refl), text), (print_end p.1.1.1.1 ++ other, (small, refl), refl))),
    )

abbrev Starts : List ℕ → Type 0
Starts bytes = (p : Parts) × RequestStart p bytes (after_line bytes)

starts_more : (bytes more l : List ℕ) → first_line bytes ≡ Some l → Starts bytes → Starts (bytes ++ more)
starts_more bytes more l line (p, x) =
    (p, subst (λ (r : List ℕ). RequestStart p (bytes ++ more) r) (sym (after_more bytes more l line)) (RequestStart_deterministic.append p bytes (after_line bytes) more x))

pub started_stays : (bytes more l : List ℕ) → first_line bytes ≡ Some l → IsStarted bytes → IsStarted (bytes ++ more)
started_stays bytes more l line s = ∥∥₁_map s (λ (x : Starts bytes). starts_more bytes more l line x)

-- the parser's unfinished answer, asked once, says that
pub may_is_started : (bytes l : List ℕ) → first_line bytes ≡ Some l → MayBecomeRequest bytes → IsStarted bytes
may_is_started bytes l line may =
    let head = may_is_head bytes l line may in
    let more = head.0 in
    let pieces = request_pieces (bytes ++ more) head.1 [] head.2 in
    let p : Parts = (request_tree head.1).0 in
    let rest : pieces.0 ≡ after_line bytes ++ more = sym (after_start p (bytes ++ more) pieces.0 pieces.1) ∙ after_more bytes more l line in
    let whole : bytes ++ more ≡ (print_start p ++ after_line bytes) ++ more =
    start_text p (bytes ++ more) pieces.0 pieces.1 ∙ ap (λ r. print_start p ++ r) rest ∙ sym (append_assoc (print_start p) (after_line bytes) more) in
    let text : bytes ≡ print_start p ++ after_line bytes = append_cancel_right bytes (print_start p ++ after_line bytes) more whole in
    ∣ (p, subst (λ (b : List ℕ). RequestStart p b (after_line bytes)) (sym text) (start_again p (bytes ++ more) pieces.0 (after_line bytes) pieces.1)) ∣₁

-- no head has come where the scan of the field lines is open, but some bytes make one
pub open_has_none : (bytes : List ℕ) → IsOpen (run Start (after_line bytes)) → HasNoRequest bytes
open_has_none bytes o h rest reads =
    let pieces = request_pieces bytes h rest reads in
    let p : Parts = (request_tree h).0 in
    let here : after_line bytes ≡ pieces.0 = after_start p bytes pieces.0 pieces.1 in
    open_none (after_line bytes) h.fields h.last rest o (subst (λ (t : List ℕ). ReadsSection t h.fields h.last rest) (sym here) pieces.2)

starts_hope : (bytes : List ℕ) → Starts bytes → IsOpen (run Start (after_line bytes)) → ¬ (NeverHasRequest bytes)
starts_hope bytes (p, x) o never =
    let r = open_may (after_line bytes) o in
    let start = RequestStart_deterministic.append p bytes (after_line bytes) r.0 x in
    never r.0 (request_head (p, (r.1, r.2))) r.3 (request_from_pieces (bytes ++ r.0) (p, (r.1, r.2)) r.3 (after_line bytes ++ r.0, start, r.4))

pub open_has_hope : (bytes : List ℕ) → IsStarted bytes → IsOpen (run Start (after_line bytes)) → ¬ (NeverHasRequest bytes)
open_has_hope bytes s o never = not_there s (λ (x : Starts bytes). starts_hope bytes x o never)
