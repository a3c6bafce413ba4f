-- The outcome, where every client is done.
use Rattle.std.proofs.Common.{◌∙◌, sym, subst}
use Rattle.stx_model.specs.Faithful.{Faithful}
use Rattle.stx_play.specs.Play.{AllDone}
use Rattle.stx_play.specs.inner.Turning.{turns_of}
use Rattle.stx_play.proofs.PlayedLaws.{goes_on, each_ended, lines_are, faithful}
use Rattle.stx_play.proofs.played.Played.finish.Goals as goal

pub lines_of-requires : goal.lines_of-requires
lines_of-requires c =
    let i = c.self.inside in
    let S = i.setup.now.scenario in
    let going = goes_on c.self.invariant c.args.self c.self.view_is c.requires.going in
    let done : AllDone S (turns_of i.pool i.store) = subst (λ v. AllDone v.scenario v.so_far) (sym c.self.view_is) c.requires.done in
    each_ended S i.pool i.store i.clients.items going done

pub returns-clause-outcome : goal.returns-clause-outcome
returns-clause-outcome c =
    let i = c.self.inside in
    let lines = c.in_ok-lines.ensures ∙ lines_are i.setup.now.scenario i.pool i.store i.clients.items (goes_on c.self.invariant c.args.self c.self.view_is c.requires.going) in
    rw (← c.self.view_is) (λ k. record { lines = lines k; pool = c.into_entries.ensures k; store = c.into_entries-2.ensures k })

pub returns-clause-faithful : goal.returns-clause-faithful
returns-clause-faithful c =
    let i = c.self.inside in
    let S = i.setup.now.scenario in
    let going = goes_on c.self.invariant c.args.self c.self.view_is c.requires.going in
    let lines = c.in_ok-lines.ensures ∙ lines_are S i.pool i.store i.clients.items going in
    let done : AllDone S (turns_of i.pool i.store) = subst (λ v. AllDone v.scenario v.so_far) (sym c.self.view_is) c.requires.done in
    rw (← c.self.view_is) (subst (Faithful S) (λ k. record { lines = sym lines k; pool = sym c.into_entries.ensures k; store = sym c.into_entries-2.ensures k })
    (faithful S i.pool i.store i.clients.items going done))
