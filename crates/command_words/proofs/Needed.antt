-- What must be there has a value in a parse.
use Rattle.std.proofs.Common.{◌≡◌, ◌<◌, ℕ, List, [], ◌∷◌, All, length, refl, sym, ◌∙◌, arith, inl, inr}
use Rattle.clap.specs.Built.{AddsArg, AddsInTurn, FitsChain, HasDistinctIds, IsParsedFrom}
use Rattle.clap.specs.Words.{Rule}
use Rattle.clap.specs.declared.builder.arg.Arg.{Arg}
use Rattle.clap.specs.declared.builder.command.Command.{Command}
use Rattle.clap.specs.declared.parser.matches.ArgMatches.{ArgMatches}
use Rattle.clap.proofs.CallerLemmas.{required_in_chain}
use Rattle.command_words.specs.Parse.{IsNeeded, Needs, HasBoth}
use Rattle.command_words.proofs.Arguments.{no_own, empty_id}

-- an id of another length than those of clap's own arguments
pub fits : (id : List ℕ) (rule : Rule) (a : Arg) (size : ℕ) → IsNeeded id rule a → length id ≡ size → 0 < length id → (size ≡ 4 → ⊥) → (size ≡ 7 → ⊥)
    → FitsChain a
fits id rule a size needed is some help version =
    let own = no_own id size is help version in (
      needed.plain,
      needed.local,
      (λ e. empty_id a.id.now id e needed.named some),
      (λ auto. elim auto [ inl h ↦ own.0 (sym needed.named ∙ h) | inr h ↦ own.1 (sym needed.named ∙ h) ]),
    )

-- a chain with one more
pub longer : (start c d : Command) (a b x : Arg) → AddsInTurn AddsArg start (a ∷ b ∷ []) c → AddsArg c x d → AddsInTurn AddsArg start (a ∷ b ∷ x ∷ []) d
longer start c d a b x chain added = (chain.0, chain.1, (chain.2.0, chain.2.1, (d, rw chain.2.2 added, refl)))

-- a command that has both, with others behind them
pub both : (name id : List ℕ) (c d : Command) (others : List Arg) (needs : Needs name id c)
    → AddsInTurn AddsArg needs.start (needs.first ∷ needs.second ∷ others) d
    → All FitsChain (needs.first ∷ needs.second ∷ others) → HasDistinctIds (needs.first ∷ needs.second ∷ others)
    → (m : ArgMatches) → IsParsedFrom d m → HasBoth id m
both name id c d others needs chain fit apart m parsed =
    let bare = needs.bare in
    let xs = needs.first ∷ needs.second ∷ others in (
      rw needs.positional.named at (required_in_chain needs.start d xs 0 needs.first m chain bare.arguments bare.groups bare.local bare.negates
          fit apart (omega arith) needs.positional.value parsed),
      rw needs.ticks.named at (required_in_chain needs.start d xs 1 needs.first m chain bare.arguments bare.groups bare.local bare.negates
          fit apart (omega arith) needs.ticks.value parsed),
    )
