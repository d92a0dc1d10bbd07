use Rattle.std.proofs.Common.{◌≡◌, ◌∙◌, ◌<◌, ◌-◌, ap, subst, arith, length, List, ℕ}
use Rattle.cp_http.specs.Heads.{HasNoBreak, window}
use Rattle.cp_session.proofs.TrafficLemmas.{grows_more}
use Rattle.cp_session.proofs.FrontLemmas.{none_below, below_within}
use Rattle.cp_session.proofs.awaiting.await_head.Goals as goal

pub loop-end-preserved : goal.loop-end-preserved
loop-end-preserved g c =
    let short : length c.loop-end.inbox < 16384 = omega (arith, c.if-len-ge-HEAD_LIMIT.false, c.len-len.ensures.value) in
    let from_is : c.saturating_sub-from.result ≡ length c.loop-end.inbox - 3 = c.saturating_sub-from.ensures ∙ ap (λ n. n - 3) c.len-len.ensures.value in
    let none : HasNoBreak (window c.loop-end.inbox) = subst (λ (b : List ℕ). HasNoBreak (window b)) c.as_slice.ensures c.in_default.ensures in
    let grown = c.in_ok-read_from.ensures.grows.kept in
    record {
      within = omega (arith, from_is, below_within c.loop-end.inbox c.read_from.new.self short grown);
      below = λ k lt. none_below c.loop-end.inbox c.read_from.new.self short grown none k (omega (arith, lt, from_is));
      grows = grows_more _ _ _ _ _ _ c.loop-end.invariant.grows c.in_ok-read_from.ensures.grows;
      never_falls = omega (arith, c.loop-end.invariant.never_falls, c.in_ok-read_from.ensures.cause.never_falls);
      held = c.in_ok-read_from.ensures.held ∙ c.loop-end.invariant.held;
      write_faults = c.in_ok-read_from.ensures.write_faults ∙ c.loop-end.invariant.write_faults;
    }
