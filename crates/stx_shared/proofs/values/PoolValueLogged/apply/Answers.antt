-- The call's entry, and that the history stays legal.
use Rattle.std.proofs.Common.{◌-◌, rules}
use Rattle.stx_base.proofs.Results.{if_ok}
use Rattle.stx_shared.proofs.LogLaws.{IsLegalPool, pool_noted, pool_stays_legal, seat_of, stays}
use Rattle.stx_shared.proofs.values.PoolValueLogged.apply.Goals as goal

pub returns-clause-entry : goal.returns-clause-entry
returns-clause-entry c = if_ok c.answer.result (pool_noted c.args.self.now c.answer.new.self c.args.who (c.args.who - 1) c.args.call (seat_of c.args.who c.requires)) (search rules)

pub returns-clause-legal : goal.returns-clause-legal
returns-clause-legal c = stays IsLegalPool c.args.self.now c.answer.new.self c.answer.result (search rules) (search rules) (pool_stays_legal c.args.self.now c.answer.new.self (c.args.who - 1) c.args.call (search rules) (search rules))
