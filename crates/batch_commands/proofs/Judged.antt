-- What was read of files stays so while other files are read.
use Rattle.std.proofs.Common.{◌≡◌, ◌+◌, ◌<◌, ℕ, List, [], ◌∷◌, ◌++◌, length, take, drop, get_or, Option, Some, None, Err, inl, inr, refl, sym, ◌∙◌, ap, subst}
use Rattle.std.proofs.lemmas.List.{drop_more, take_more, take-append-drop}
use Rattle.std.specs.List.{AllZip}
use Rattle.bim_model.specs.declared.named_model.NamedModel.{NamedModel}
use Rattle.bim_model.specs.declared.rules.Rule.{Rule}
use Rattle.bim_model.specs.declared.upload.Mode.{Mode}
use Rattle.bim_model.specs.declared.upload.UploadFault.{UploadFault}
use Rattle.bim_model.specs.Snapshots.{Version, with_model}
use Rattle.bim_io.specs.Causes.{Rose}
use Rattle.bim_files.specs.Files.{FilesTold, FilesSeen, Holds, Tells, content_of, judged}
use Rattle.bim_files.specs.FileReading.{FileEnds}
use Rattle.bim_files.specs.declared.front.FileError.{FileError}
use Rattle.bim_files.specs.declared.front.FileError.TheVariants as file
use Rattle.clash_check.specs.VersionChecks.{IsVersionFault}
use Rattle.clash_check.specs.declared.version_fault.VersionFault.{VersionFault}
use Rattle.batch_commands.specs.declared.check_words.ModelWord.{ModelWord}
use Rattle.batch_commands.specs.declared.check_words.CheckWords.{CheckWords}
use Rattle.batch_commands.specs.declared.refusal.Refusal.{Refusal}
use Rattle.batch_commands.specs.declared.refusal.Refusal.TheVariants as refusal
use Rattle.batch_commands.specs.declared.refusal.JudgeError.{JudgeError}
use Rattle.batch_commands.specs.declared.refusal.JudgeError.TheVariants.{Refused, File, Memory}
use Rattle.batch_commands.specs.Judging.{AreJudged, Ends, Fails, HasRules, IsFirstRefused, IsJudged, IsMadeOf, IsRefusal, IsRefused, IsVersionOf, IsWordRefused, Quiet, of_file, placed}

tells_same : (a : Option FilesTold) → Tells a a
tells_same None = tt
tells_same (Some x) = (refl, λ n. refl)

tells_on : (a b c : Option FilesTold) → Tells a b → Tells b c → Tells a c
tells_on None None None p q = tt
tells_on None None (Some z) p q = absurd q
tells_on None (Some y) c p q = absurd p
tells_on (Some x) None None p q = tt
tells_on (Some x) None (Some z) p q = absurd q
tells_on (Some x) (Some y) None p q = tt
tells_on (Some x) (Some y) (Some z) p q = (q.0 ∙ p.0, λ n. q.1 n ∙ p.1 n)

-- what a call in the middle reads, which says whether it tells, is what the files hold all along
holds_within : (a b c d : Option FilesTold) (name bytes : List ℕ) → Tells a b → Tells b c → Tells c d → Holds b c name bytes → Holds a d name bytes
holds_within None b c d name bytes p m q h = tt
holds_within (Some x) b c None name bytes p m q h = tt
holds_within (Some x) b None (Some z) name bytes p m q h = absurd q
holds_within (Some x) None (Some y) (Some z) name bytes p m q h = absurd m
holds_within (Some x) (Some w) (Some y) (Some z) name bytes p m q h =
    λ free. h (p.1 name ∙ free) ∙ ap (λ fs. judged (content_of fs name)) p.0

-- a model that was judged stays so
judged_on : (a b c : Option FilesTold) (mode : Mode) (word : ModelWord) (model : NamedModel) → Tells a b → Tells b c → IsJudged a b mode word model → IsJudged a c mode word model
judged_on a b c mode word model p q is =
    record { name = is.name; bytes = is.bytes; holds = holds_within a a b c word.file is.bytes (tells_same a) p q is.holds; makes = is.makes }

-- and one that a later call judges is one of all calls
judged_within : (a b c : Option FilesTold) (mode : Mode) (word : ModelWord) (model : NamedModel) → Tells a b → Tells b c → IsJudged b c mode word model → IsJudged a c mode word model
judged_within a b c mode word model p q is =
    record { name = is.name; bytes = is.bytes; holds = holds_within a b c c word.file is.bytes p q (tells_same c) is.holds; makes = is.makes }

all_judged_on : (a b c : Option FilesTold) (mode : Mode) (words : List ModelWord) (models : List NamedModel) → Tells a b → Tells b c → AreJudged a b mode words models → AreJudged a c mode words models
all_judged_on a b c mode [] [] p q are = tt
all_judged_on a b c mode [] (m ∷ ms) p q are = absurd are
all_judged_on a b c mode (w ∷ ws) [] p q are = absurd are
all_judged_on a b c mode (w ∷ ws) (m ∷ ms) p q are = (judged_on a b c mode w m p q are.0, all_judged_on a b c mode ws ms p q are.1)

-- the last of the models is put among the others
placed_last : (there models : List NamedModel) (model : NamedModel) → placed there (models ++ model ∷ []) ≡ with_model model (placed there models)
placed_last there [] model = refl
placed_last there (m ∷ ms) model = placed_last (with_model m there) ms model

-- ---- calls one after the other

pub quiet_same : (a : FilesSeen) → Quiet a a
quiet_same a = (tells_same a.told, refl)

pub quiet_on : (a b c : FilesSeen) → Quiet a b → Quiet b c → Quiet a c
quiet_on a b c p q = (tells_on a.told b.told c.told p.0 q.0, q.1 ∙ p.1)

fails_on : (a b c : FilesSeen) → Quiet a b → Fails b c → Fails a c
fails_on a b c p q = (tells_on a.told b.told c.told p.0 q.0, subst (λ n. Rose n c.faults) p.1 q.1)

-- a file that can't be read gives nothing
pub file_ends : (a b : FilesSeen) (name : List ℕ) (Is : Refusal → Type 0) (e : FileError) → FileEnds a b name (Err e) → Ends a b Is (of_file e)
file_ends a b name Is file.Failed f = f
file_ends a b name Is file.Memory f = f

-- what a later call ends with, by what its refusals mean for all calls
pub ends_on : (a b c : FilesSeen) (Is Was : Refusal → Type 0) (e : JudgeError) → Quiet a b → (Quiet b c → (why : Refusal) → Was why → Is why) → Ends b c Was e
    → Ends a c Is e
ends_on a b c Is Was (Refused why) p by f = (quiet_on a b c p f.0, by f.0 why f.1)
ends_on a b c Is Was File p by f = fails_on a b c p f
ends_on a b c Is Was Memory p by f = quiet_on a b c p f

-- ---- rules

rules_on : (a b c : Option FilesTold) (name : List ℕ) (rules : List Rule) → Tells a b → Tells b c → HasRules a b name rules → HasRules a c name rules
rules_on a b c name rules p q has =
    record { bytes = has.bytes; holds = holds_within a a b c name has.bytes (tells_same a) p q has.holds; spell = has.spell }

-- ---- models

zip_last : {A B : Type 0} (R : A → B → Type 0) (xs : List A) (ys : List B) (x : A) (y : B) → AllZip R xs ys → R x y → AllZip R (xs ++ x ∷ []) (ys ++ y ∷ [])
zip_last R [] [] x y are is = (is, tt)
zip_last R [] (z ∷ zs) x y are is = absurd are
zip_last R (w ∷ ws) [] x y are is = absurd are
zip_last R (w ∷ ws) (z ∷ zs) x y are is = (are.0, zip_last R ws zs x y are.1 is)

all_judged_within : (a b c : Option FilesTold) (mode : Mode) (words : List ModelWord) (models : List NamedModel) → Tells a b → Tells b c → AreJudged b c mode words models → AreJudged a c mode words models
all_judged_within a b c mode [] [] p q are = tt
all_judged_within a b c mode [] (m ∷ ms) p q are = absurd are
all_judged_within a b c mode (w ∷ ws) [] p q are = absurd are
all_judged_within a b c mode (w ∷ ws) (m ∷ ms) p q are = (judged_within a b c mode w m p q are.0, all_judged_within a b c mode ws ms p q are.1)

refused_within : (a b c : Option FilesTold) (mode : Mode) (word : ModelWord) (fault : UploadFault) → Tells a b → Tells b c → IsRefused b c mode word fault → IsRefused a c mode word fault
refused_within a b c mode word fault p q is =
    record { bytes = is.bytes; holds = holds_within a b c c word.file is.bytes p q (tells_same c) is.holds; refused = is.refused }

-- before the first word
pub made_none : (a : Option FilesTold) (mode : Mode) (rules : List Rule) (version : Version) → version.rules ≡ rules → version.models ≡ [] → IsMadeOf a a mode [] rules version
made_none a mode rules version rules_are none = record { rules_are = rules_are; models = []; judged = tt; placed_are = none }

-- one more word's model
pub made_more : (a b c : Option FilesTold) (mode : Mode) (words : List ModelWord) (i : ℕ) (word : ModelWord) (model : NamedModel) (rules : List Rule) (old new : Version)
    → i < length words → word ≡ get_or words i word → Tells a b → Tells b c → IsMadeOf a b mode (take i words) rules old → IsJudged b c mode word model
    → new.models ≡ with_model model old.models → new.rules ≡ old.rules → IsMadeOf a c mode (take (i + 1) words) rules new
made_more a b c mode words i word model rules old new lt is p q made judged models_are rules_same =
    let front : AreJudged a c mode (take i words) made.models = all_judged_on a b c mode (take i words) made.models p q made.judged in
    let last : IsJudged a c mode word model = judged_within a b c mode word model p q judged in
    let both : AreJudged a c mode (take i words ++ word ∷ []) (made.models ++ model ∷ []) = zip_last (IsJudged a c mode) (take i words) made.models word model front last in
    let words_are : take i words ++ word ∷ [] ≡ take (i + 1) words = ap (λ w. take i words ++ w ∷ []) is ∙ sym (take_more words i word lt) in
    record {
      rules_are = rules_same ∙ made.rules_are;
      models = made.models ++ model ∷ [];
      judged = subst (λ ws. AreJudged a c mode ws (made.models ++ model ∷ [])) words_are both;
      placed_are = models_are ∙ ap (with_model model) made.placed_are ∙ sym (placed_last [] made.models model);
    }

-- words by the one of a place
pub parts_at : (words : List ModelWord) (i : ℕ) (word : ModelWord) → i < length words → word ≡ get_or words i word → words ≡ take i words ++ word ∷ drop (i + 1) words
parts_at words i word lt is =
    sym (take-append-drop i words) ∙ ap (λ l. take i words ++ l) (drop_more words i word lt ∙ ap (λ w. w ∷ drop (i + 1) words) (sym is))

-- the first word that is refused
pub first_refused : (a b c : Option FilesTold) (mode : Mode) (words : List ModelWord) (i : ℕ) (word : ModelWord) (rules : List Rule) (old : Version) (why : Refusal)
    → words ≡ take i words ++ word ∷ drop (i + 1) words → Tells a b → Tells b c → IsMadeOf a b mode (take i words) rules old → IsWordRefused b c mode word why
    → IsFirstRefused a c mode words why
first_refused a b c mode words i word rules old why parts p q made is = record {
  front = take i words;
  word = word;
  rest = drop (i + 1) words;
  words_are = parts;
  models = made.models;
  judged = all_judged_on a b c mode (take i words) made.models p q made.judged;
  fault = is.fault;
  refused = refused_within a b c mode word is.fault p q is.refused;
  why_is = is.why_is;
}

first_within : (a b c : Option FilesTold) (mode : Mode) (words : List ModelWord) (why : Refusal) → Tells a b → Tells b c → IsFirstRefused b c mode words why → IsFirstRefused a c mode words why
first_within a b c mode words why p q is = record {
  front = is.front;
  word = is.word;
  rest = is.rest;
  words_are = is.words_are;
  models = is.models;
  judged = all_judged_within a b c mode is.front is.models p q is.judged;
  fault = is.fault;
  refused = refused_within a b c mode is.word is.fault p q is.refused;
  why_is = is.why_is;
}

-- ---- the whole check

pub version_of_words : (a b c : Option FilesTold) (said : CheckWords) (rules : List Rule) (version made : Version) → Tells a b → Tells b c → HasRules a b said.rules rules
    → IsMadeOf b c said.mode said.models rules made → version ≡ made → IsVersionOf a c said version
version_of_words a b c said rules version made p q has is same =
    let rules_are : rules ≡ version.rules = sym (ap (λ (v : Version). v.rules) same ∙ is.rules_are) in
    record {
      rules = subst (λ rs. HasRules a c said.rules rs) rules_are (rules_on a b c said.rules rules p q has);
      models = is.models;
      judged = all_judged_within a b c said.mode said.models is.models p q is.judged;
      placed_are = ap (λ (v : Version). v.models) same ∙ is.placed_are;
    }

pub model_refusal : (a b c : Option FilesTold) (said : CheckWords) (rules : List Rule) (why : Refusal) → Tells a b → Tells b c → HasRules a b said.rules rules
    → IsFirstRefused b c said.mode said.models why → IsRefusal a c said why
model_refusal a b c said rules why p q has first = inr (inl (record {
  rules = rules;
  read = rules_on a b c said.rules rules p q has;
  first = first_within a b c said.mode said.models why p q first;
}))

pub version_refusal : (a c : Option FilesTold) (said : CheckWords) (version : Version) (fault : VersionFault) → IsVersionOf a c said version → IsVersionFault version fault
    → IsRefusal a c said (refusal.Version fault)
version_refusal a c said version fault of_words full = inr (inr (record { version = version; of_words = of_words; fault = fault; full = full; why_is = refl }))
