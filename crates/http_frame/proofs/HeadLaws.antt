-- Heads: one reading, and a reading stays whatever follows.
use Rattle.std.proofs.Common.{◌≡◌, ℕ, zero, suc, ◌+◌, ◌-◌, ◌≤◌, true, List, [], ◌∷◌, ◌++◌, length, take, Option, Some, None, IsSome, refl, sym, ap, ◌∙◌, arith, append_assoc, inl, inr, subst}
use Rattle.std.proofs.lemmas.List.{take-append-le, append-nil, length-append}
use Rattle.std.proofs.Math.Seq.{take-append-add}
use Rattle.httparse.specs.Grammar.{RequestHead, print_request, ReadsRequest, HasNoRequest, NeverHasRequest}
use Rattle.httparse.proofs.GrammarLemmas.{request_unique, ReadsRequest-append}
use Rattle.http_frame.specs.declared.types.FrameFault.{FrameFault}
use Rattle.http_frame.specs.Heads.{first_line, has_other_version, most_head, front, fault_of, HasOtherVersion, IsHopeless, HasHead, IsOverlong, FailsInHead, HasGoodHead}
use Rattle.http_frame.proofs.Lines.{first_line_more, head_line}

-- ---- the front of longer bytes

take_more : (n : ℕ) (xs ys : List ℕ) → (m : List ℕ) × (take n (xs ++ ys) ≡ take n xs ++ m)
take_more zero xs ys = ([], refl)
take_more (suc n) [] ys = (take (suc n) ys, refl)
take_more (suc n) (x ∷ xs) ys = let r = take_more n xs ys in (r.0, ap (λ z. x ∷ z) r.1)

pub take_past : (n : ℕ) (xs ys : List ℕ) → length xs ≤ n → take n (xs ++ ys) ≡ xs ++ take (n - length xs) ys
take_past n xs ys fits =
    let e : n ≡ length xs + (n - length xs) = omega arith in
    ap (λ k. take k (xs ++ ys)) e ∙ take-append-add xs ys (n - length xs)

pub front_more : (bytes more : List ℕ) → (m : List ℕ) × (front (bytes ++ more) ≡ front bytes ++ m)
front_more bytes more = take_more most_head bytes more

pub front_full : (bytes more : List ℕ) → most_head ≤ length bytes → front (bytes ++ more) ≡ front bytes
front_full bytes more full = take-append-le most_head bytes more full

pub front_head : (bytes : List ℕ) (h : RequestHead) (rest : List ℕ) → HasHead bytes h rest → (after : List ℕ) × ReadsRequest (front bytes) h after
front_head bytes h rest x =
    (take (most_head - length (print_request h)) rest, (x.0.0, ap front x.0.1 ∙ take_past most_head (print_request h) rest x.1))

-- ---- what excludes what

pub head_unique : (bytes : List ℕ) (h k : RequestHead) (r q : List ℕ) → HasHead bytes h r → HasHead bytes k q → (h ≡ k) × (r ≡ q)
head_unique bytes h k r q x y = request_unique bytes h k r q x.0 y.0

pub head_is_some : (bytes : List ℕ) (h : RequestHead) (rest : List ℕ) → HasHead bytes h rest → HasNoRequest (front bytes) → ⊥
head_is_some bytes h rest x none = let a = front_head bytes h rest x in none h a.0 a.1

pub hopeless_is_none : (bytes : List ℕ) → NeverHasRequest bytes → HasNoRequest bytes
hopeless_is_none bytes never = subst (λ (b : List ℕ). HasNoRequest b) (append-nil bytes) (never [])

pub head_is_hope : (bytes : List ℕ) (h : RequestHead) (rest : List ℕ) → HasHead bytes h rest → IsHopeless bytes → ⊥
head_is_hope bytes h rest x nay = head_is_some bytes h rest x (hopeless_is_none (front bytes) nay.1)

one_fault : (a b : Option FrameFault) (f g : FrameFault) → a ≡ b → a ≡ Some f → b ≡ Some g → f ≡ g
one_fault a b f g e x y = some_same (sym x ∙ e ∙ y)
  where
    some_same : Some f ≡ Some g → f ≡ g
    some_same e = cc

no_fault : (a b : Option FrameFault) (f : FrameFault) → a ≡ b → a ≡ Some f → b ≡ None → ⊥
no_fault a b f e x y = let bad : Some f ≡ None = sym x ∙ e ∙ y in cc

pub head_fault_unique : (bytes : List ℕ) (f g : FrameFault) → FailsInHead bytes f → FailsInHead bytes g → f ≡ g
head_fault_unique bytes f g (inl x) (inl y) = x.1 ∙ sym y.1
head_fault_unique bytes f g (inl x) (inr y) = absurd (y.0 x.0)
head_fault_unique bytes f g (inr x) (inl y) = absurd (x.0 y.0)
head_fault_unique bytes f g (inr (nx, inl x)) (inr (ny, inl y)) = x.1 ∙ sym y.1
head_fault_unique bytes f g (inr (nx, inl x)) (inr (ny, inr (inl y))) = absurd (y.0.2 x.0)
head_fault_unique bytes f g (inr (nx, inl x)) (inr (ny, inr (inr (k, q, y, e)))) = absurd (head_is_hope bytes k q y x.0)
head_fault_unique bytes f g (inr (nx, inr (inl x))) (inr (ny, inl y)) = absurd (x.0.2 y.0)
head_fault_unique bytes f g (inr (nx, inr (inl x))) (inr (ny, inr (inl y))) = x.1 ∙ sym y.1
head_fault_unique bytes f g (inr (nx, inr (inl x))) (inr (ny, inr (inr (k, q, y, e)))) = absurd (head_is_some bytes k q y x.0.1)
head_fault_unique bytes f g (inr (nx, inr (inr (h, r, x, d)))) (inr (ny, inl y)) = absurd (head_is_hope bytes h r x y.0)
head_fault_unique bytes f g (inr (nx, inr (inr (h, r, x, d)))) (inr (ny, inr (inl y))) = absurd (head_is_some bytes h r x y.0.1)
head_fault_unique bytes f g (inr (nx, inr (inr (h, r, x, d)))) (inr (ny, inr (inr (k, q, y, e)))) =
    one_fault (fault_of h) (fault_of k) f g (ap fault_of (head_unique bytes h k r q x y).0) d e

pub good_is_no_fault : (bytes : List ℕ) (h : RequestHead) (rest : List ℕ) (f : FrameFault) → HasGoodHead bytes h rest → FailsInHead bytes f → ⊥
good_is_no_fault bytes h rest f good (inl x) = good.version x.0
good_is_no_fault bytes h rest f good (inr (nx, inl x)) = head_is_hope bytes h rest good.whole x.0
good_is_no_fault bytes h rest f good (inr (nx, inr (inl x))) = head_is_some bytes h rest good.whole x.0.1
good_is_no_fault bytes h rest f good (inr (nx, inr (inr (k, q, y, e)))) =
    no_fault (fault_of k) (fault_of h) f (ap fault_of (head_unique bytes k h q rest y good.whole).0) e good.good

pub good_unique : (bytes : List ℕ) (h k : RequestHead) (r q : List ℕ) → HasGoodHead bytes h r → HasGoodHead bytes k q → (h ≡ k) × (r ≡ q)
good_unique bytes h k r q x y = head_unique bytes h k r q x.whole y.whole

-- ---- what stays, whatever follows

pub line_stays : (bytes more l : List ℕ) → first_line (front bytes) ≡ Some l → first_line (front (bytes ++ more)) ≡ Some l
line_stays bytes more l e = let m = front_more bytes more in ap first_line m.1 ∙ first_line_more (front bytes) m.0 l e

line_of_version : (o : Option (List ℕ)) → has_other_version o ≡ true → (l : List ℕ) × (o ≡ Some l)
unfolding has_other_version
line_of_version None e = cc
line_of_version (Some l) e = (l, refl)

pub line_of_some : (o : Option (List ℕ)) → IsSome o → (l : List ℕ) × (o ≡ Some l)
line_of_some None e = cc
line_of_some (Some l) e = (l, refl)

pub some_of_line : (o : Option (List ℕ)) (l : List ℕ) → o ≡ Some l → IsSome o
some_of_line o l e = subst (λ (x : Option (List ℕ)). IsSome x) (sym e) refl

pub version_stays : (bytes more : List ℕ) → HasOtherVersion bytes → HasOtherVersion (bytes ++ more)
version_stays bytes more v =
    let l = line_of_version (first_line (front bytes)) v in
    ap has_other_version (line_stays bytes more l.0 l.1 ∙ sym l.1) ∙ v

pub no_version_stays : (bytes more l : List ℕ) → first_line (front bytes) ≡ Some l → ¬ (HasOtherVersion bytes) → ¬ (HasOtherVersion (bytes ++ more))
no_version_stays bytes more l e nay v = nay (ap has_other_version (e ∙ sym (line_stays bytes more l e)) ∙ v)

pub hopeless_stays : (bytes more : List ℕ) → IsHopeless bytes → IsHopeless (bytes ++ more)
hopeless_stays bytes more nay =
    let m = front_more bytes more in
    let l = line_of_some (first_line (front bytes)) nay.0 in (
      some_of_line _ l.0 (line_stays bytes more l.0 l.1),
      λ x. subst (λ (b : List ℕ). HasNoRequest b) (sym (ap (λ b. b ++ x) m.1 ∙ append_assoc (front bytes) m.0 x)) (nay.1 (m.0 ++ x)),
    )

pub head_stays : (bytes more : List ℕ) (h : RequestHead) (rest : List ℕ) → HasHead bytes h rest → HasHead (bytes ++ more) h (rest ++ more)
head_stays bytes more h rest x = (ReadsRequest-append bytes h rest more x.0, x.1)

pub line_of_head : (bytes : List ℕ) (h : RequestHead) (rest : List ℕ) → HasHead bytes h rest → (l : List ℕ) × (first_line (front bytes) ≡ Some l)
line_of_head bytes h rest x = let a = front_head bytes h rest x in head_line (front bytes) h a.0 a.1

pub longer : (bytes more : List ℕ) → most_head ≤ length bytes → most_head ≤ length (bytes ++ more)
longer bytes more full = omega (arith, length-append bytes more)

pub overlong_stays : (bytes more : List ℕ) → IsOverlong bytes → IsOverlong (bytes ++ more)
overlong_stays bytes more x =
    let e = front_full bytes more x.0 in (
      longer bytes more x.0,
      subst (λ (b : List ℕ). HasNoRequest b) (sym e) x.1,
      λ nay. x.2 (subst (λ (b : List ℕ). IsSome (first_line b) × NeverHasRequest b) e nay),
    )

pub head_fault_stays : (bytes more : List ℕ) (f : FrameFault) → FailsInHead bytes f → FailsInHead (bytes ++ more) f
head_fault_stays bytes more f (inl x) = inl (version_stays bytes more x.0, x.1)
head_fault_stays bytes more f (inr (nx, inl x)) =
    let l = line_of_some (first_line (front bytes)) x.0.0 in
    inr (no_version_stays bytes more l.0 l.1 nx, inl (hopeless_stays bytes more x.0, x.1))
head_fault_stays bytes more f (inr (nx, inr (inl x))) =
    inr (λ v. nx (ap (λ b. has_other_version (first_line b)) (sym (front_full bytes more x.0.0)) ∙ v), inr (inl (overlong_stays bytes more x.0, x.1)))
head_fault_stays bytes more f (inr (nx, inr (inr (h, r, x, d)))) =
    let l = line_of_head bytes h r x in
    inr (no_version_stays bytes more l.0 l.1 nx, inr (inr (h, r ++ more, head_stays bytes more h r x, d)))

pub good_stays : (bytes more : List ℕ) (h : RequestHead) (rest : List ℕ) → HasGoodHead bytes h rest → HasGoodHead (bytes ++ more) h (rest ++ more)
good_stays bytes more h rest x =
    let l = line_of_head bytes h rest x.whole in
    record { version = no_version_stays bytes more l.0 l.1 x.version; whole = head_stays bytes more h rest x.whole; good = x.good }
