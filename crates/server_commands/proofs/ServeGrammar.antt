-- What the parser of command lines finds in the words of `serve`, and what they say.
use Rattle.std.proofs.Common.{◌≡◌, ◌∙◌, ℕ, List, Option, Some, Result, IfOk, codes, refl, sym, ap, ap₂}
use Rattle.std.proofs.lemmas.Result.{IfOk-weaker}
use Rattle.std.specs.declared.alloc.AllocError.{AllocError}
use Rattle.clap.specs.Words.{App, first_of, first_value, found_of, rows_of}
use Rattle.clap.specs.declared.parser.matches.ArgMatches.{ArgMatches}
use Rattle.clap.specs.declared.parser.matches.Found.{Found}
use Rattle.clap.proofs.WalkLemmas.{first_value-rows}
use Rattle.command_words.specs.CommandOptions.{IsParse, IsPlainCommand}
use Rattle.command_words.proofs.Grammar.{words_said}
use Rattle.server_commands.specs.declared.serve_words.TheConstants.{MOST_LANES, MOST_WORKERS, MOST_LINKS}
use Rattle.server_commands.specs.declared.serve_words.ServeCounts.{ServeCounts}
use Rattle.server_commands.specs.declared.serve_words.ServeWords.{ServeWords}
use Rattle.server_commands.specs.ReplayWords.{projects_said}
use Rattle.server_commands.specs.ServeWords.{all_counted, addr_said, counts_said, number_or, said_with, serve_command, serve_said, serve_words}

-- `serve` is a command whose parse is known
pub serve_is_plain : IsPlainCommand serve_command
unfolding serve_command
serve_is_plain = record { simple = refl; alone = refl; defaults = refl }

-- the value of an option, as it was found
found_value : (f : Found) (name : List ℕ) (value : Option (List ℕ)) → value ≡ first_value f name → value ≡ first_of name (rows_of f)
found_value f name value is = is ∙ first_value-rows f name

-- what the values of the four options count
pub values_counted : (f : Found) (one two three four : Option (List ℕ)) (lanes workers links projects : Option ℕ) → one ≡ first_value f (codes "lanes")
    → two ≡ first_value f (codes "workers") → three ≡ first_value f (codes "links") → four ≡ first_value f (codes "projects") → lanes ≡ number_or 1 MOST_LANES 2 one
    → workers ≡ number_or 1 MOST_WORKERS 1 two → links ≡ number_or 0 MOST_LINKS 0 three → projects ≡ projects_said four
    → all_counted lanes workers links projects ≡ counts_said (rows_of f)
values_counted f one two three four lanes workers links projects one_is two_is three_is four_is lanes_is workers_is links_is projects_is =
    let l = lanes_is ∙ ap (number_or 1 MOST_LANES 2) (found_value f (codes "lanes") one one_is) in
    let w = workers_is ∙ ap (number_or 1 MOST_WORKERS 1) (found_value f (codes "workers") two two_is) in
    let k = links_is ∙ ap (number_or 0 MOST_LINKS 0) (found_value f (codes "links") three three_is) in
    let p = projects_is ∙ ap projects_said (found_value f (codes "projects") four four_is) in
    ap₂ (λ a b. all_counted a b links projects) l w
    ∙ ap₂ (λ a b. all_counted (number_or 1 MOST_LANES 2 (first_of (codes "lanes") (rows_of f)))
    (number_or 1 MOST_WORKERS 1 (first_of (codes "workers") (rows_of f))) a b) k p

-- an address beside what is counted
pub values_said : (f : Found) (text : Option (List ℕ)) (addr : List ℕ) (counts : ServeCounts) → text ≡ first_value f (codes "addr") → addr ≡ addr_said text
    → (counted : Option ServeCounts) → counted ≡ Some counts → counted ≡ counts_said (rows_of f)
    → Some (record { addr = addr; counts = counts }) ≡ serve_said (rows_of f)
values_said f text addr counts text_is addr_is counted some by =
    let a = addr_is ∙ ap addr_said (found_value f (codes "addr") text text_is) in
    ap₂ said_with a (sym some ∙ by)

-- words that are taken say what their values do, or memory ran out for it
pub words_served : (made : App) (lent words : List (List ℕ)) (found : Option ArgMatches) (m : ArgMatches) (said : Result (Option ServeWords) AllocError) → made ≡ serve_command
    → lent ≡ words → found ≡ Some m → IsParse made lent found → IfOk said (λ s. s ≡ serve_said (rows_of (found_of m))) → IfOk said (λ s. s ≡ serve_words words)
words_served made lent words found m said same words_are found_is parse by =
    IfOk-weaker said _ _ (λ s is. words_said serve_command serve_said made lent words found m s same words_are found_is parse is) by
