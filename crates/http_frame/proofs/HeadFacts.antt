-- From where the parts of a head stand to what it says.
use Rattle.std.proofs.Common.{◌≡◌, ℕ, ◌<◌, ◌≤◌, ◌==◌, ◌||◌, ◌&&◌, not, Bool, true, false, List, [], ◌∷◌, ◌++◌, length, map, if◌then◌else◌, Option, Some, None, Result, Ok, Err, refl, sym, ap, ◌∙◌, arith, codes}
use Rattle.std.specs.Prelude.{nat_lt, nat_le}
use Rattle.std.specs.List.{list_any}
use Rattle.std.specs.Str.{IsUtf8, is_utf8}
use Rattle.std.proofs.lemmas.Str.{is_utf8-from_IsUtf8, IsUtf8-from_is_utf8}
use Rattle.httparse.specs.declared.spans.HeaderSpan.{HeaderSpan}
use Rattle.httparse.specs.declared.spans.RequestSpans.{RequestSpans}
use Rattle.httparse.specs.Grammar.{RequestHead}
use Rattle.httparse.specs.Spans.{name_and_value, header_bytes, span_bytes}
use Rattle.http1.specs.Text.{eq_ignore_case}
use Rattle.http1.specs.Fields.{is_named, values_named, has_option, elements_named}
use Rattle.http_frame.specs.declared.types.FrameFault.{FrameFault}
use Rattle.http_frame.specs.declared.types.FrameFault.TheVariants.{BadHead, HeadTooLong, BodyTooLong}
use Rattle.http_frame.specs.declared.head.Plan.{Plan}
use Rattle.http_frame.specs.declared.head.Plan.TheVariants.{Absent, Sized, Chunked}
use Rattle.http_frame.specs.Heads.{Framing, absent, sized, chunked, badly, framing_by, framing_fault, framing, most_body, fault_of, values_of, user_by, user_of, turn_by, turn_of, closes, is_encoded, asks_continue}
use Rattle.http_frame.specs.inner.Facts.{has_value, has_other_value, user_in}
use Rattle.http_frame.specs.Told.{most_by, plan_of, lacks_host, checked_by, facts_at, has_body, asks_at, IsPlan, IsFactsOf, IsAskingAs}

-- ---- values

pub two_values : (values : List (List ℕ)) (a : List ℕ) (more : List (List ℕ)) (n : ℕ) → values ≡ a ∷ more → n ≡ length values → (n ≡ 1 → ⊥)
    → (a : List ℕ) × (b : List ℕ) × (more : List (List ℕ)) × (values ≡ a ∷ b ∷ more)
two_values values a [] n e count other = absurd (other (count ∙ ap length e))
two_values values a (b ∷ more) n e count other = (a, b, more, e)

lt_true : (n : ℕ) → 0 < n → nat_lt 0 n ≡ true
lt_true n e = grind arith

le_true : (n m : ℕ) → n ≤ m → nat_le n m ≡ true
le_true n m e = grind arith

pub named_user : (v : List ℕ) → 0 < length v → length v ≤ 128 → IsUtf8 v → user_in v ≡ v
named_user v some few text = rw (lt_true (length v) some, le_true (length v) 128 few, is_utf8-from_IsUtf8 v text) refl

pub no_user : (v : List ℕ) → (IsUtf8 v → ⊥) → user_in v ≡ codes "anonymous"
no_user v bad = by_test (nat_lt 0 (length v) && nat_le (length v) 128) (is_utf8 v) refl
  where
    by_test : (c d : Bool) → is_utf8 v ≡ d → (if c && d then v else codes "anonymous") ≡ codes "anonymous"
    by_test c true e = absurd (bad (IsUtf8-from_is_utf8 v e))
    by_test true false e = refl
    by_test false false e = refl

-- ---- tests of the values with a name

any_step : (n t : Bool) (p : List ℕ → Bool) (v : List ℕ) (rest : List (List ℕ)) → list_any p (if n then v ∷ rest else rest) ≡ ((n && p v) || list_any p rest)
any_step true t p v rest = refl
any_step false t p v rest = refl

values_step : (n : Bool) (v : List ℕ) (rest : List (List ℕ)) → (if n then v ∷ [] else []) ++ rest ≡ (if n then v ∷ rest else rest)
values_step true v rest = refl
values_step false v rest = refl

pub any_with : (name option : List ℕ) (fields : List (List ℕ × List ℕ)) → list_any (has_value name option) fields ≡ has_option option (values_named name fields)
any_with name option [] = refl
any_with name option (f ∷ fields) =
    ap (λ b. (is_named name f && eq_ignore_case f.1 option) || b) (any_with name option fields)
    ∙ sym (ap (list_any (λ e. eq_ignore_case e option)) (values_step (is_named name f) f.1 (values_named name fields))
    ∙ any_step (is_named name f) true (λ e. eq_ignore_case e option) f.1 (values_named name fields))

pub any_without : (name option : List ℕ) (fields : List (List ℕ × List ℕ)) → list_any (has_other_value name option) fields ≡ list_any (λ v. not (eq_ignore_case v option)) (values_named name fields)
any_without name option [] = refl
any_without name option (f ∷ fields) =
    ap (λ b. (is_named name f && not (eq_ignore_case f.1 option)) || b) (any_without name option fields)
    ∙ sym (ap (list_any (λ e. not (eq_ignore_case e option))) (values_step (is_named name f) f.1 (values_named name fields))
    ∙ any_step (is_named name f) true (λ e. not (eq_ignore_case e option)) f.1 (values_named name fields))

-- ---- the first fault

-- a fault, or none and how the body comes
abbrev pub IsChecked : Option FrameFault → ℕ → Framing → Result Plan FrameFault → Type 0
IsChecked fault most how (Ok plan) = (fault ≡ None) × IsPlan most how plan
IsChecked fault most how (Err f) = fault ≡ Some f

long_or_not : (b : Bool) (most n : ℕ) → IsChecked (if b then Some BodyTooLong else None) most (sized n) (if b then Err BodyTooLong else Ok (Sized n))
long_or_not true most n = refl
long_or_not false most n = (refl, refl)

planned : (most : ℕ) (how : Framing) → IsChecked (framing_fault most how) most how (plan_of most how)
planned most absent = (refl, refl)
planned most (sized n) = long_or_not (nat_lt most n) most n
planned most chunked = (refl, (refl, refl))
planned most badly = refl

by_tests : (host many : Bool) (most : ℕ) (how : Framing)
    → IsChecked (if host then Some BadHead else (if many then Some HeadTooLong else framing_fault most how)) most how
    (if host then Err BadHead else (if many then Err HeadTooLong else plan_of most how))
by_tests true many most how = refl
by_tests false true most how = refl
by_tests false false most how = planned most how

pub is_checked : (h : RequestHead) → IsChecked (fault_of h) (most_body h) (framing h) (checked_by h.method h.target h.minor (length h.fields) (map name_and_value h.fields))
unfolding checked_by fault_of most_body framing values_of
is_checked h =
    by_tests (lacks_host h.minor (values_named (codes "host") (map name_and_value h.fields))) (nat_lt 64 (length h.fields)) (most_by h.method h.target)
    (framing_by (values_named (codes "content-length") (map name_and_value h.fields)) (values_named (codes "transfer-encoding") (map name_and_value h.fields)) h.minor)

-- ---- what is kept

pub is_facts : (block : List ℕ) (spans : RequestSpans) (headers : List HeaderSpan) (h : RequestHead)
    → span_bytes block spans.method ≡ h.method → span_bytes block spans.path ≡ h.target → spans.version ≡ h.minor
    → map (header_bytes block) headers ≡ map name_and_value h.fields → IsFactsOf (facts_at block spans headers) h
unfolding facts_at user_of turn_of closes is_encoded values_of
is_facts block spans headers h method target minor fields = record {
  method = method;
  target = target;
  minor = minor;
  user = ap (λ (fs : List (List ℕ × List ℕ)). user_by (values_named (codes "x-user") fs)) fields;
  close = ap (λ (n : ℕ). n == 0 || has_option (codes "close") (elements_named (codes "connection") (map (header_bytes block) headers))) minor
      ∙ ap (λ (fs : List (List ℕ × List ℕ)). h.minor == 0 || has_option (codes "close") (elements_named (codes "connection") fs)) fields;
  encoded = any_without (codes "content-encoding") (codes "identity") (map (header_bytes block) headers)
      ∙ ap (λ (fs : List (List ℕ × List ℕ)). list_any (λ v. not (eq_ignore_case v (codes "identity"))) (values_named (codes "content-encoding") fs)) fields;
  seen = ap (λ (fs : List (List ℕ × List ℕ)). turn_by (values_named (codes "x-book-turn") fs)) fields;
}

-- ---- whether `100 Continue` is asked for

plan_has : (most : ℕ) (how : Framing) (plan : Plan) → IsPlan most how plan → has_body plan ≡ true → ¬ (how ≡ absent)
plan_has most how Absent is b e = cc
plan_has most how (Sized n) is b e = let bad : sized n ≡ absent = sym is ∙ e in cc
plan_has most how (Chunked room) is b e = let bad : chunked ≡ absent = sym is.0 ∙ e in cc

plan_lacks : (most : ℕ) (how : Framing) (plan : Plan) → IsPlan most how plan → has_body plan ≡ false → how ≡ absent
plan_lacks most how Absent is b = is
plan_lacks most how (Sized n) is b = cc
plan_lacks most how (Chunked room) is b = cc

anded : (a b : Bool) → (a && b) ≡ true → (a ≡ true) × (b ≡ true)
anded true true e = (refl, refl)
anded true false e = cc
anded false b e = cc

not_anded : (a b : Bool) → (a && b) ≡ false → a ≡ true → b ≡ false
not_anded true b e f = e
not_anded false b e f = cc

asked : (h : RequestHead) (plan : Plan) (b : Bool) → IsPlan (most_body h) (framing h) plan → (asks_continue h && has_body plan) ≡ b → IsAskingAs h b
asked h plan true is e = let both = anded (asks_continue h) (has_body plan) e in (both.0, plan_has (most_body h) (framing h) plan is both.1)
asked h plan false is e = λ asking. asking.1 (plan_lacks (most_body h) (framing h) plan is (not_anded (asks_continue h) (has_body plan) e asking.0))

pub is_asking : (block : List ℕ) (headers : List HeaderSpan) (minor : ℕ) (h : RequestHead) (plan : Plan) → minor ≡ h.minor
    → map (header_bytes block) headers ≡ map name_and_value h.fields → IsPlan (most_body h) (framing h) plan → IsAskingAs h (asks_at minor block headers plan)
unfolding asks_continue values_of
is_asking block headers minor h plan same fields is =
    asked h plan (asks_at minor block headers plan) is
    (sym (ap (λ (n : ℕ). n == 1 && list_any (has_value (codes "expect") (codes "100-continue")) (map (header_bytes block) headers) && has_body plan) same
    ∙ ap (λ (b : Bool). h.minor == 1 && b && has_body plan) (any_with (codes "expect") (codes "100-continue") (map (header_bytes block) headers)
    ∙ ap (λ (fs : List (List ℕ × List ℕ)). has_option (codes "100-continue") (values_named (codes "expect") fs)) fields)))
