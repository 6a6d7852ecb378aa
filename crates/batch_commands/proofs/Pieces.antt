-- What was put of the pieces of a file.
use Rattle.std.proofs.Common.{◌≡◌, ℕ, List, [], ◌++◌, Ok, refl, sym, ◌∙◌, ap, append_assoc, append-nil, subst}
use Rattle.bim_io.specs.StreamViews.{SinkSeen}
use Rattle.batch_commands.specs.declared.block.Stop.{Stop}
use Rattle.batch_commands.specs.declared.block.Stop.TheVariants.{Memory}
use Rattle.batch_commands.specs.PrintedOutput.{Puts, Stops, WritesFront}
use Rattle.batch_commands.proofs.Blocks.{put_more, put_none, put_stopped, put_wanting}

-- a front of the whole was put, and the rest is left
pub record PutOf (a b : SinkSeen) (x y whole left : List ℕ) : Type 0 where
  pub done : List ℕ
  pub parts : whole ≡ done ++ left
  pub put : Puts a b x y done (Ok tt)

pub of_none : (a : SinkSeen) (x whole : List ℕ) → PutOf a a x x whole whole
of_none a x whole = record { done = []; parts = refl; put = put_none a x }

pub of_more : (a b c : SinkSeen) (x y z whole left text after : List ℕ) → PutOf a b x y whole left → left ≡ text ++ after → Puts b c y z text (Ok tt)
    → PutOf a c x z whole after
of_more a b c x y z whole left text after p e q = record {
  done = p.done ++ text;
  parts = p.parts ∙ ap (λ xs. p.done ++ xs) e ∙ sym (append_assoc p.done text after);
  put = put_more a b c x y z p.done text p.put q;
}

pub of_stopped : (a b c : SinkSeen) (x y whole left text after : List ℕ) (stop : Stop) → PutOf a b x y whole left → left ≡ text ++ after
    → WritesFront b c (y ++ text) × Stops b c stop → WritesFront a c (x ++ whole) × Stops a c stop
of_stopped a b c x y whole left text after stop p e f =
    put_stopped a b c x y p.done text after whole stop p.put f (p.parts ∙ ap (λ xs. p.done ++ xs) e)

pub of_wanting : (a b : SinkSeen) (x y whole left : List ℕ) → PutOf a b x y whole left → WritesFront a b (x ++ whole) × Stops a b Memory
of_wanting a b x y whole left p = put_wanting a b x y p.done left whole p.put p.parts

-- nothing is left
pub of_all : (a b : SinkSeen) (x y whole left : List ℕ) → PutOf a b x y whole left → left ≡ [] → Puts a b x y whole (Ok tt)
of_all a b x y whole left p none =
    let all : whole ≡ p.done = p.parts ∙ ap (λ xs. p.done ++ xs) none ∙ append-nil p.done in
    subst (λ s. Puts a b x y s (Ok tt)) (sym all) p.put
