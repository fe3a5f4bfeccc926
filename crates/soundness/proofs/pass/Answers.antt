-- `soundness::pass` meets its contract. Assumes nothing.
use Rattle.std.proofs.Common.{◌∙◌, ap, not}
use Rattle.soundness.proofs.Passes.{used_at, used_of, lone_bucket, lone_inside, pass_free, pass_over, pass_unfit, pass_held, pass_on}
use Rattle.soundness.proofs.pass.Goals as goal

pub returns-then-csd-eq0 : goal.returns-then-csd-eq0
returns-then-csd-eq0 g c = search pass_free

pub returns-then-not-counted : goal.returns-then-not-counted
returns-then-not-counted g c = pass_over _ g.R.Placed.kind _ _ _ c.of-place.ensures c.one-csd.ensures _ c.requires.ready _ (c.QUOTA.ensures ∙ g.met.R.Placed.few) _ _ c.counted.ensures c.if-csd-eq0.false (ap not c.if-not-counted.true)

pub lone-requires-clause-at_nonzero : goal.lone-requires-clause-at_nonzero
lone-requires-clause-at_nonzero g c = search used_at

pub returns-in_default : goal.returns-in_default
returns-in_default g c = pass_unfit _ g.R.Placed.kind _ _ _ c.of-place.ensures c.one-csd.ensures _ c.requires.ready _ (c.QUOTA.ensures ∙ g.met.R.Placed.few) _ _ c.counted.ensures c.if-csd-eq0.false _ c.lone.ensures c.in_default.is

pub held-requires-clause-i_nonzero : goal.held-requires-clause-i_nonzero
held-requires-clause-i_nonzero g c = search used_of

pub held-requires-clause-k_value : goal.held-requires-clause-k_value
held-requires-clause-k_value g c = lone_bucket _ g.R.Placed.kind _ _ _ c.of-place.ensures c.one-csd.ensures _ c.lone.ensures _ c.in-Some.is

pub held-requires-clause-k_bound : goal.held-requires-clause-k_bound
held-requires-clause-k_bound g c = search lone_inside

pub returns-then-held : goal.returns-then-held
returns-then-held g c = pass_held _ g.R.Placed.kind _ _ _ c.of-place.ensures c.one-csd.ensures _ c.requires.ready _ (c.QUOTA.ensures ∙ g.met.R.Placed.few) _ _ c.counted.ensures c.if-csd-eq0.false _ c.held.ensures c.if-held.true

pub enter-requires-clause-k_bound : goal.enter-requires-clause-k_bound
enter-requires-clause-k_bound g c = search lone_inside

pub returns : goal.returns
returns g c = pass_on _ g.R.Placed.kind _ _ _ c.of-place.ensures c.one-csd.ensures _ c.requires.ready _ (c.QUOTA.ensures ∙ g.met.R.Placed.few) _ _ c.counted.ensures c.if-csd-eq0.false _ _ _ _ c.enter.ensures c.held.ensures c.if-held.false c.lone.ensures c.in-Some.is (ap not c.if-not-counted.false)
