-- The same cores, over an epoch and over a settle.
use Rattle.std.proofs.Common.{◌<◌, ℕ, Bool, List, [], ◌∷◌, length, get_or, sym, ap, subst, ◌∙◌, arith}
use Rattle.ix_mbuf.specs.declared.name.Name.{Name}
use Rattle.ix_mbuf.specs.Buffers.{Buffer}
use Rattle.ix_stack.specs.declared.work.Work.{Work}
use Rattle.ix_nic.specs.Ports.{PortView}
use Rattle.ix_core.specs.declared.turning.Core.{Core}
use Rattle.ix_core.specs.Cores.{CoreBecame, Ran}
use Rattle.ix_core.specs.Settling.{CoreSettled}
use Rattle.ix_epochs.specs.Ready.{EpochsAreReady, IsReady}
use Rattle.ix_homes.specs.Homes.{EpochsKeepOwn}
use Rattle.ix_slots.specs.Slots.{FramesAreOwn}
use Rattle.ix_pools.specs.Pools.{CoreStays, DesksStay, EpochsKeepPools, FramesOfEpochsAreOwn, SettlesKeepPools, SlotsStay}

-- some element of a list that isn't empty
an-element : {X : Type 0} (xs : List X) (c : ℕ) → c < length xs → X
an-element [] c lt = absurd (omega (arith, lt))
an-element (x ∷ xs) c lt = x

module _ {U E : Type 0} (counted : Work → Bool) (name : Work → ℕ) (stepped : U → List (ℕ × ℕ)) (advanced : U → E → ℕ → List Work → U → Type 0) (drained : U → List Buffer → U → Type 0) where
  pub epochs-keep : EpochsKeepPools U E counted name stepped advanced drained
  epochs-keep env feed feed' cores cores' ran = record { count = ran.cores.count; each = each } where
    each : (c : ℕ) (d : Core U E) → c < length cores → CoreStays (get_or cores c d) (get_or cores' c d)
    each c d lt =
        let became : CoreBecame counted name stepped advanced drained env (get_or cores c d) (get_or cores' c d) = ran.cores.each c d lt in
        let on : Ran counted name stepped advanced drained env (get_or cores c d) (get_or cores' c d) = became.ran (ran.over.rest c d (subst (λ (n : ℕ). c < n) (sym ran.cores.count) lt)).found in
        record { home = on.home; slots = on.number; batch = became.ends.batch }

module _ {U E : Type 0} where
  pub settles-keep : SettlesKeepPools U E
  settles-keep owners report card card' cores cores' settles = record { count = settles.count; each = each } where
    each : (c : ℕ) (d : Core U E) → c < length cores → DesksStay (get_or cores c d) (get_or cores' c d)
    each c d lt =
        let p : PortView = an-element card'.ports c (subst (λ (n : ℕ). c < n) (sym (settles.order.count ∙ settles.count)) lt) in
        let one : CoreSettled (get_or card.ports c p) (get_or card'.ports c p) (get_or cores c d) (get_or cores' c d) = settles.each c p d lt in
        record {
          stays = record { home = one.home; slots = one.slots; batch = ap (λ (x : Core U E). x.batch) one.core_rest };
          desks = ap (λ (x : Core U E). x.desks) one.core_rest;
        }

  pub slots-stay : SlotsStay U E
  slots-stay buffers cores cores' stay slots c d lt = let before : c < length cores = subst (λ (n : ℕ). c < n) stay.count lt in (stay.each c d before).slots ∙ slots c d before

module _ {U E : Type 0} (counted : Work → Bool) (name : Work → ℕ) (stepped : U → List (ℕ × ℕ)) (advanced : U → E → ℕ → List Work → U → Type 0) (drained : U → List Buffer → U → Type 0) (weight : (Name → ℕ) → U → ℕ) where
  pub frames-own : EpochsAreReady {U = U} {E = E} counted name stepped advanced drained → EpochsKeepOwn U E counted name stepped advanced drained → FramesAreOwn
      → FramesOfEpochsAreOwn U E counted name stepped advanced drained weight
  frames-own go-ready keep-own lie buffers env feed feed' cores cores' some slots home ran rings =
      let ready : IsReady feed'.card cores' = (go-ready env feed feed' cores cores' some home.ready ran).ready in
      let first : Core U E = an-element cores 0 (omega (arith, some)) in
      lie (length cores) buffers (λ c. (get_or cores c first).pool) ran.feed.told (λ c lt. (home.ready.order.numbers c first lt, slots c first lt)) rings
      (λ c lt. (keep-own env feed feed' cores cores' home.ready ready home.posted ran).frames c first lt)
