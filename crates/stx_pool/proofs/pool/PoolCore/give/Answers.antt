-- The connection is one of the pool's, and room for its give was kept.
use Rattle.std.proofs.Common.{arith, refl, length-set}
use Rattle.stx_pool.proofs.Sound.{given_is_out, given_leaves, give_replies, sound_give}
use Rattle.stx_pool.proofs.pool.PoolCore.give.Goals as goal

pub overflow_sub-number : goal.overflow_sub-number
overflow_sub-number c =
    let proper = rw (← c.self.view_is) at c.requires.proper in
    omega (arith, c.number-number.ensures, (given_is_out _ _ _ _ _ c.self.invariant proper).1)

pub index_mut-requires : goal.index_mut-requires
index_mut-requires c =
    let proper = rw (← c.self.view_is) at c.requires.proper in
    let given = given_is_out _ _ _ _ _ c.self.invariant proper in
    omega (arith, c.number-number.ensures, given.1, given.2, c.self.inside.is_out.ok.0)

pub push-requires : goal.push-requires
push-requires c =
    let proper = rw (← c.self.view_is) at c.requires.proper in
    omega (arith, c.self.invariant.room, given_leaves _ _ _ _ _ c.self.invariant proper)

pub invariant_of-self : goal.invariant_of-self
invariant_of-self c =
    let proper = rw (← c.self.view_is) at c.requires.proper in
    rw c.number-number.ensures
    (sound_give _ _ _ _ _ _ _ c.self.invariant c.requires.client proper (rw c.number-number.ensures at c.push.ensures.items) c.push.ensures.room)

pub returns : goal.returns
returns c = record {
  reply = give_replies _ _ _;
  kept = rw (← c.self.view_is, c.push.ensures.items, c.number-number.ensures, length-set) refl;
}
