-- The answer for the instances that bytes spell is the answer for the bytes.
use Rattle.std.proofs.Common.{◌≡◌, ℕ, List, inl, inr, Result, Ok, Err, subst}
use Rattle.std.specs.Result.{IfOk, IfErr}
use Rattle.bim_model.specs.declared.upload.Mode.{Mode}
use Rattle.bim_model.specs.declared.upload.BuildError.{BuildError}
use Rattle.bim_model.specs.declared.upload.BuildError.TheVariants as errors
use Rattle.bim_model.specs.declared.element.Element.{Element}
use Rattle.p21_values.specs.declared.value.Instance.{Instance}
use Rattle.p21_reader.specs.Uploads.{SpellsExchange}
use Rattle.p21_reader.specs.Uploads as reader
use Rattle.model_build.specs.StageFaults.{IsClear}
use Rattle.model_build.specs.Profile.{IsModelOf, Profile, IsCause}
use Rattle.model_build.specs.Stages.{FileFault}
use Rattle.model_build.specs.inner.Outcomes.{IsErrorOf}

-- the answer for the instances of a file that was made of these is that for these

pub same_ok : (world other : List Instance) (mode m : Mode) (r : Result (List Element) BuildError) → other ≡ world → m ≡ mode → IfOk r (λ model. IsClear (FileFault other m) × IsModelOf other m model)
    → IfOk r (λ model. IsClear (FileFault world mode) × IsModelOf world mode model)
same_ok world other mode m r e f h =
    subst (λ (w : List Instance). IfOk r (λ model. IsClear (FileFault w mode) × IsModelOf w mode model)) e (subst (λ (k : Mode). IfOk r (λ model. IsClear (FileFault other k) × IsModelOf other k model)) f h)

pub same_err : (world other : List Instance) (mode m : Mode) (r : Result (List Element) BuildError) → other ≡ world → m ≡ mode → IfErr r (IsErrorOf (FileFault other m)) → IfErr r (IsErrorOf (FileFault world mode))
same_err world other mode m r e f h = subst (λ (w : List Instance). IfErr r (IsErrorOf (FileFault w mode))) e (subst (λ (k : Mode). IfErr r (IsErrorOf (FileFault other k))) f h)

-- the bytes

pub profile_ok : (bytes : List ℕ) (mode : Mode) (world : List Instance) (r : Result (List Element) BuildError) → SpellsExchange bytes world → IfOk r (λ m. IsClear (FileFault world mode) × IsModelOf world mode m)
    → IfOk r (λ m. Profile bytes mode (Ok m))
unfolding Profile
profile_ok bytes mode world (Ok m) spells h = (world, spells, h.0, h.1)
profile_ok bytes mode world (Err e) spells h = h

file_cause : (bytes : List ℕ) (mode : Mode) (world : List Instance) (e : BuildError) → SpellsExchange bytes world → IsErrorOf (FileFault world mode) e → IsCause bytes mode e
unfolding Profile
file_cause bytes mode world (errors.Fault fault) spells h = inr (world, spells, h)
file_cause bytes mode world errors.Memory spells h = h

pub profile_err : (bytes : List ℕ) (mode : Mode) (world : List Instance) (r : Result (List Element) BuildError) → SpellsExchange bytes world → IfErr r (IsErrorOf (FileFault world mode)) → IfErr r (λ e. IsCause bytes mode e)
profile_err bytes mode world (Ok m) spells h = h
profile_err bytes mode world (Err e) spells h = file_cause bytes mode world e spells h

pub read_cause : (bytes : List ℕ) (mode : Mode) (e : BuildError) → reader.IsCause bytes e → IsCause bytes mode e
unfolding Profile
read_cause bytes mode (errors.Fault fault) h = inl h
read_cause bytes mode errors.Memory h = h
