-- The code that reads the version, and its definition.
use Rattle.std.proofs.Common.{◌≡◌, ℕ, zero, suc, ◌+◌, ◌<◌, ◌≤◌, ◌==◌, ◌||◌, ◌&&◌, Bool, true, false, List, [], ◌∷◌, ◌++◌, length, take, drop, get_or, if◌then◌else◌, Option, Some, None, All, reverse, rules, refl, sym, ap, ◌∙◌, arith, append_assoc, drop-cons, add-one, eq-eqb}
use Rattle.std.proofs.lemmas.List.{append-nil}
use Rattle.std.proofs.Math.Seq.{take-suc, drop-length}
use Rattle.std.proofs.Math.ListN.{drop_of_length-le}
use Rattle.std.proofs.lemmas.Bool.{ne_eqb}
use Rattle.http_frame.specs.Heads.{before, line_at, first_line, begins_lf, without_cr, ends_in_version, has_other_version}
use Rattle.std.proofs.lemmas.List.{reverse-append}
use Rattle.std.proofs.lemmas.List.Elements.{All-head, All-tail, All-cons, All-append}
use Rattle.std.proofs.Math.Bool.{Bool-set}
use Rattle.std.proofs.Math.Logic.{∥∥₁_elim}
use Rattle.httparse.specs.Grammar.{RequestHead, LineEnd, crlf, lf, print_end, print_version, ReadsRequest}
use Rattle.httparse.specs.Pieces.{RequestStart}
use Rattle.httparse.proofs.GrammarLemmas.{request_pieces, request_tree}
use Rattle.http_frame.specs.declared.field_lines.Spot.{Spot}
use Rattle.http_frame.specs.declared.field_lines.Spot.TheVariants.{Before, BeforeCr, Line, Fields}
use Rattle.http_frame.specs.declared.watch.Watch.{Watch}
use Rattle.http_frame.specs.Scan.{Parts, after_line, spot_run, IsAsked}
use Rattle.http_frame.specs.Watched.{is_early, IsWatch}
use Rattle.http_frame.proofs.Lines.{skip_blank, line_here, token_no_lf, uri_no_lf}
use Rattle.http_frame.proofs.Watching.{early_is_none}
use Rattle.http_frame.specs.inner.HeadLines.{begins_blank, put_before}

-- ---- empty lines

pick_then : (c : Bool) (x y : Option (List ℕ)) → c ≡ true → (if c then x else y) ≡ x
pick_then true x y e = refl
pick_then false x y e = cc

pick_else : (c : Bool) (x y : Option (List ℕ)) → c ≡ false → (if c then x else y) ≡ y
pick_else true x y e = cc
pick_else false x y e = refl

past_blank : (b : ℕ) (t : List ℕ) → begins_blank (b ∷ t) ≡ true → first_line (b ∷ t) ≡ first_line t
unfolding first_line
past_blank b t e = pick_then (b == 10 || (b == 13 && begins_lf t)) (first_line t) (line_at (b ∷ t)) e

pub blank_step : (bytes : List ℕ) (i : ℕ) → i < length bytes → begins_blank (drop i bytes) ≡ true → first_line (drop i bytes) ≡ first_line (drop (i + 1) bytes)
blank_step bytes i lt e =
    let cut = drop-cons bytes i 0 lt in
    ap first_line cut ∙ past_blank (get_or bytes i 0) (drop (suc i) bytes) (ap begins_blank (sym cut) ∙ e) ∙ ap (λ n. first_line (drop n bytes)) (sym (add-one i))

pub at_line : (t : List ℕ) → begins_blank t ≡ false → first_line t ≡ line_at t
unfolding first_line line_at
at_line [] e = refl
at_line (b ∷ t) e = pick_else (b == 10 || (b == 13 && begins_lf t)) (first_line t) (line_at (b ∷ t)) e

no_bytes : first_line [] ≡ line_at []
unfolding first_line line_at
no_bytes = refl

pub at_end : (bytes : List ℕ) (i : ℕ) → length bytes ≤ i → first_line bytes ≡ first_line (drop i bytes) → first_line bytes ≡ line_at (drop (length bytes) bytes)
at_end bytes i all e =
    let here : drop i bytes ≡ [] = drop_of_length-le bytes all in
    let there : drop (length bytes) bytes ≡ [] = drop-length bytes in
    e ∙ ap first_line here ∙ no_bytes ∙ ap line_at (sym there)

-- ---- the end of a line

put_step : (xs : List ℕ) (b : ℕ) (o : Option (List ℕ)) → put_before xs (before b o) ≡ put_before (xs ++ b ∷ []) o
put_step xs b None = refl
put_step xs b (Some l) = ap (λ v. Some v) (sym (append_assoc xs (b ∷ []) l))

pub no_lf : (b : ℕ) (t : List ℕ) → (b == 10) ≡ false → line_at (b ∷ t) ≡ before b (line_at t)
unfolding line_at
no_lf b t e = pick_else (b == 10) (Some []) (before b (line_at t)) e

pub lf_here : (b : ℕ) (t : List ℕ) → (b == 10) ≡ true → line_at (b ∷ t) ≡ Some []
unfolding line_at
lf_here b t e = pick_then (b == 10) (Some []) (before b (line_at t)) e

pub line_step : (bytes : List ℕ) (i : ℕ) → i < length bytes → (get_or bytes i 0 ≡ 10 → ⊥)
    → line_at bytes ≡ put_before (take i bytes) (line_at (drop i bytes)) → line_at bytes ≡ put_before (take (i + 1) bytes) (line_at (drop (i + 1) bytes))
line_step bytes i lt not_lf h =
    let e : (get_or bytes i 0 == 10) ≡ false = ne_eqb (get_or bytes i 0) 10 not_lf in
    h ∙ ap (λ t. put_before (take i bytes) (line_at t)) (drop-cons bytes i 0 lt)
    ∙ ap (put_before (take i bytes)) (no_lf (get_or bytes i 0) (drop (suc i) bytes) e)
    ∙ put_step (take i bytes) (get_or bytes i 0) (line_at (drop (suc i) bytes))
    ∙ ap (λ v. put_before v (line_at (drop (suc i) bytes))) (sym (take-suc bytes i 0 lt))
    ∙ ap (λ n. put_before (take n bytes) (line_at (drop n bytes))) (sym (add-one i))

pub line_found : (bytes : List ℕ) (i : ℕ) → i < length bytes → get_or bytes i 0 ≡ 10
    → line_at bytes ≡ put_before (take i bytes) (line_at (drop i bytes)) → line_at bytes ≡ Some (take i bytes)
line_found bytes i lt is h =
    let e : (get_or bytes i 0 == 10) ≡ true = eq-eqb (get_or bytes i 0) 10 is in
    h ∙ ap (λ t. put_before (take i bytes) (line_at t)) (drop-cons bytes i 0 lt)
    ∙ ap (put_before (take i bytes)) (lf_here (get_or bytes i 0) (drop (suc i) bytes) e)
    ∙ ap (λ v. Some v) (append-nil (take i bytes))

pub nothing : line_at [] ≡ None
unfolding line_at
nothing = refl

pub line_nowhere : (bytes : List ℕ) (i : ℕ) → length bytes ≤ i → line_at bytes ≡ put_before (take i bytes) (line_at (drop i bytes)) → line_at bytes ≡ None
line_nowhere bytes i all h =
    let here : drop i bytes ≡ [] = drop_of_length-le bytes all in
    h ∙ ap (λ t. put_before (take i bytes) (line_at t)) here ∙ ap (put_before (take i bytes)) nothing

-- ---- a line of the grammar names 1.0 or 1.1

pub line_exact : (xs r : List ℕ) → All (λ b. (b == 10) ≡ false) xs → line_at (xs ++ 10 ∷ r) ≡ Some xs
line_exact [] r all = lf_here 10 r refl
line_exact (b ∷ xs) r all =
    no_lf b (xs ++ 10 ∷ r) (All-head (λ v. (v == 10) ≡ false) b xs all)
    ∙ ap (before b) (line_exact xs r (All-tail (λ v. (v == 10) ≡ false) b xs all))

abbrev pub cr_of : LineEnd → List ℕ
cr_of crlf = 13 ∷ []
cr_of lf = []

pub end_parts : (e : LineEnd) (rest : List ℕ) → print_end e ++ rest ≡ cr_of e ++ 10 ∷ rest
end_parts crlf rest = refl
end_parts lf rest = refl

version_tail : (minor : ℕ) (e : LineEnd) (zs : List ℕ) → minor ≤ 1 → ends_in_version (without_cr (reverse (32 ∷ (print_version minor ++ cr_of e)) ++ zs)) ≡ false
version_tail zero crlf zs small = refl
version_tail zero lf zs small = refl
version_tail (suc zero) crlf zs small = refl
version_tail (suc zero) lf zs small = refl
version_tail (suc (suc n)) e zs small = absurd (omega arith)

version_no_lf : (minor : ℕ) (e : LineEnd) → minor ≤ 1 → All (λ b. (b == 10) ≡ false) (print_version minor ++ cr_of e)
version_no_lf zero crlf small = search rules
version_no_lf zero lf small = search rules
version_no_lf (suc zero) crlf small = search rules
version_no_lf (suc zero) lf small = search rules
version_no_lf (suc (suc n)) e small = absurd (omega arith)

regroup : (a b w z : List ℕ) → a ++ 32 ∷ (b ++ 32 ∷ (w ++ z)) ≡ ((a ++ 32 ∷ b) ++ 32 ∷ w) ++ z
regroup a b w z = simp append_assoc

named : (line : List ℕ) (o : Option (List ℕ)) → o ≡ Some line → ends_in_version (without_cr (reverse line)) ≡ false → has_other_version o ≡ false
unfolding has_other_version
named line o e h = ap has_other_version e ∙ h

pub started_version : (p : Parts) (bytes rest : List ℕ) → RequestStart p bytes rest → has_other_version (first_line bytes) ≡ false
started_version p bytes rest (m1, (blank, stops), (m2, (some, token, e2), (m3, ((long, uri, e3), text), (m4, (small, e4), e5)))) =
    let tail = print_version p.1.1.1.0 ++ cr_of p.1.1.1.1 in
    let pre = p.1.0 ++ 32 ∷ p.1.1.0 in
    let line = pre ++ 32 ∷ tail in
    let ends : m3 ≡ tail ++ 10 ∷ rest =
    e4 ∙ ap (λ x. print_version p.1.1.1.0 ++ x) (e5 ∙ end_parts p.1.1.1.1 rest) ∙ sym (append_assoc (print_version p.1.1.1.0) (cr_of p.1.1.1.1) (10 ∷ rest)) in
    let whole : m1 ≡ line ++ 10 ∷ rest =
    e2 ∙ ap (λ x. p.1.0 ++ 32 ∷ x) (e3 ∙ ap (λ x. p.1.1.0 ++ 32 ∷ x) ends) ∙ regroup p.1.0 p.1.1.0 tail (10 ∷ rest) in
    let plain : All (λ b. (b == 10) ≡ false) line =
    All-append (λ v. (v == 10) ≡ false) pre (32 ∷ tail)
    (All-append (λ v. (v == 10) ≡ false) p.1.0 (32 ∷ p.1.1.0) (token_no_lf p.1.0 token) (All-cons (λ v. (v == 10) ≡ false) 32 p.1.1.0 refl (uri_no_lf p.1.1.0 uri)))
    (All-cons (λ v. (v == 10) ≡ false) 32 tail refl (version_no_lf p.1.1.1.0 p.1.1.1.1 small)) in
    let found : first_line bytes ≡ Some line =
    ap first_line blank ∙ skip_blank p.0 m1 ∙ line_here m1 stops ∙ ap line_at whole ∙ line_exact line rest plain in
    named line (first_line bytes) found
    (ap (λ r. ends_in_version (without_cr r)) (reverse-append pre (32 ∷ tail)) ∙ version_tail p.1.1.1.0 p.1.1.1.1 (reverse pre) small)

pub head_version : (bytes : List ℕ) (h : RequestHead) (rest : List ℕ) → ReadsRequest bytes h rest → has_other_version (first_line bytes) ≡ false
head_version bytes h rest reads =
    let pieces = request_pieces bytes h rest reads in started_version (request_tree h).0 bytes pieces.0 pieces.1

none_version : (o : Option (List ℕ)) → o ≡ None → has_other_version o ≡ false
unfolding has_other_version
none_version o e = ap has_other_version e

watch_version : (s : Spot) (bytes : List ℕ) → s ≡ spot_run Before bytes → IsAsked s bytes → has_other_version (first_line bytes) ≡ false
watch_version Before bytes e asked = none_version (first_line bytes) (early_is_none bytes (ap is_early (sym e)))
watch_version BeforeCr bytes e asked = none_version (first_line bytes) (early_is_none bytes (ap is_early (sym e)))
watch_version Line bytes e asked = none_version (first_line bytes) (early_is_none bytes (ap is_early (sym e)))
watch_version (Fields place) bytes e asked =
    ∥∥₁_elim asked (Bool-set (has_other_version (first_line bytes)) false)
    (λ (x : (p : Parts) × RequestStart p bytes (after_line bytes)). started_version x.0 bytes (after_line bytes) x.1)

pub watched_version : (w : Watch) (bytes : List ℕ) → IsWatch w bytes → has_other_version (first_line bytes) ≡ false
watched_version w bytes is = watch_version w.spot bytes is.0 is.1
