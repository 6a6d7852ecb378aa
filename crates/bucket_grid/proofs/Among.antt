-- Some of the numbers.
use Rattle.std.proofs.Common.{◌≡◌, ℕ, ◌<◌, List, length, get_or, [], sym, subst, ap, arith, ◌∙◌}
use Rattle.std.specs.List.{All}
use Rattle.std.proofs.lemmas.List.Elements.{All-filter}
use Rattle.bucket_grid.specs.declared.lists.Span.{Span}
use Rattle.bucket_grid.specs.Dealt.{covers, span_at, AreDealt, IsAmong}
use Rattle.bucket_grid.specs.BucketTable.{among}

pub fewer : (spans other : List Span) (numbers some : List ℕ) (count k : ℕ) → some ≡ among other k numbers → IsAmong spans numbers count → IsAmong spans some count
fewer spans other numbers some count k e h = record {
  few = h.few;
  places = subst (All (λ n. n < length spans)) (sym e) (All-filter (λ n. covers k (span_at other n)) (λ n. n < length spans) numbers h.places);
  spans_below = h.spans_below;
}

-- in other names
pub renamed : (spans other : List Span) (numbers : List ℕ) (count more : ℕ) → spans ≡ other → count ≡ more → IsAmong spans numbers count → IsAmong other numbers more
renamed spans other numbers count more e f h = subst (λ (s : List Span). IsAmong s numbers more) e (subst (λ n. IsAmong spans numbers n) f h)

-- a list that was dealt
pub dealt_at : (spans other : List Span) (numbers : List ℕ) (count k end : ℕ) (lists : List (List ℕ)) (l : List ℕ) → other ≡ spans → AreDealt other numbers count lists → end ≡ length lists → k < end → l ≡ get_or lists k [] → l ≡ among spans k numbers
dealt_at spans other numbers count k end lists l e h n lt is = subst (λ (s : List Span). l ≡ among s k numbers) e (is ∙ h.each k (omega (arith, h.count_is)))

-- a value of four equal arguments
pub same_four : {A B C D E : Type 0} (f : A → B → C → D → E) (a p : A) (b q : B) (c r : C) (d s : D) → a ≡ p → b ≡ q → c ≡ r → d ≡ s → f a b c d ≡ f p q r s
same_four f a p b q c r d s e g h i = ap (λ x. f x b c d) e ∙ ap (λ x. f p x c d) g ∙ ap (λ x. f p q x d) h ∙ ap (λ x. f p q r x) i
