-- What the parser of command lines finds in words, and what they say.
use Rattle.std.proofs.Common.{◌≡◌, ◌∙◌, ℕ, Bool, true, false, List, [], Option, Some, None, if◌then◌else◌, refl, sym, ap, subst}
use Rattle.std.proofs.lemmas.Bool.{and_parts}
use Rattle.clap.specs.Words.{App, HasMatchesOf, Row, built, fault_of, found_of, is_simple, kind_of, matches_of, rows_of, takes}
use Rattle.clap.specs.Faults.{is_free_app}
use Rattle.clap.specs.declared.error.Error.{Error}
use Rattle.clap.specs.declared.error.kind.ErrorKind.TheVariants.{OutOfMemory}
use Rattle.clap.specs.declared.parser.matches.ArgMatches.{ArgMatches}
use Rattle.command_words.specs.CommandOptions.{IsParse, IsPlainCommand, said_by}
use Rattle.command_words.proofs.Taking.{takes_faultless}

simple_of : (command : App) → IsPlainCommand command → is_simple command ≡ true
simple_of command is = (and_parts (is_simple command) (is_free_app (built command)) is.simple).0

-- a parse that gave matches
pub found_matches : (command : App) (words : List (List ℕ)) (m : ArgMatches) → IsPlainCommand command → fault_of command words ≡ []
    → HasMatchesOf command words m → IsParse command words (Some m)
found_matches command words m is none has = (takes_faultless command words is.simple is.alone is.defaults none, (has (simple_of command is)).0)

false_unless : (b : Bool) → (b ≡ true → ⊥) → b ≡ false
false_unless true never = absurd (never refl)
false_unless false never = refl

-- a parse that failed for another reason than out of memory
pub found_nothing : (command : App) (words : List (List ℕ)) (e : Error) → (takes command words ≡ true → kind_of e ≡ OutOfMemory) → (kind_of e ≡ OutOfMemory → ⊥)
    → IsParse command words None
found_nothing command words e passes other = false_unless (takes command words) (λ taken. other (passes taken))

parse_of : (made command : App) (lent words : List (List ℕ)) (found is : Option ArgMatches) → made ≡ command → lent ≡ words → found ≡ is
    → IsParse made lent found → IsParse command words is
parse_of made command lent words found is same words_are found_is parse =
    subst (λ (o : Option ArgMatches). IsParse command words o) found_is
    (subst (λ (w : List (List ℕ)). IsParse command w found) words_are (subst (λ (a : App). IsParse a lent found) same parse))

-- words that are taken say what their values do
pub words_said : {A : Type 0} (command : App) (say : List Row → Option A) (made : App) (lent words : List (List ℕ)) (found : Option ArgMatches) (m : ArgMatches) (said : Option A)
    → made ≡ command → lent ≡ words → found ≡ Some m → IsParse made lent found → said ≡ say (rows_of (found_of m)) → said ≡ said_by command say words
words_said {A} command say made lent words found m said same words_are found_is parse by =
    let whole : IsParse command words (Some m) = parse_of made command lent words found (Some m) same words_are found_is parse in
    by ∙ ap say whole.1 ∙ sym (ap (λ (b : Bool). (if b then say (matches_of command words) else None)) whole.0)

-- words that are not taken say nothing
pub words_refused : {A : Type 0} (command : App) (say : List Row → Option A) (made : App) (lent words : List (List ℕ)) (found : Option ArgMatches) → made ≡ command → lent ≡ words
    → found ≡ None → IsParse made lent found → None ≡ said_by command say words
words_refused {A} command say made lent words found same words_are found_is parse =
    let whole : IsParse command words None = parse_of made command lent words found None same words_are found_is parse in
    sym (ap (λ (b : Bool). (if b then say (matches_of command words) else None)) whole)
