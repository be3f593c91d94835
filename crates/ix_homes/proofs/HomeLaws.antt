-- The numbers of a home add up.
use Rattle.std.proofs.Common.{◌≡◌, ◌≢◌, ◌+◌, ◌<◌, ◌==◌, ℕ, zero, suc, true, false, List, [], ◌∷◌, ◌++◌, length, get_or, sum_by, refl, sym, ap, subst, ◌∙◌, arith}
use Rattle.std.specs.Prelude.{Option, Some, None, if◌then◌else◌}
use Rattle.std.specs.List.{AllByRecursion}
use Rattle.std.proofs.lemmas.Bool.Decides.{nat_tests}
use Rattle.std.proofs.lemmas.List.{get_or_default}
use Rattle.std.proofs.lemmas.List.Elements.{recursion_from_All}
use Rattle.std.proofs.lemmas.List.Sums.{sum_by-append, sum_by-cons, sum_by_push}
use Rattle.ix_base.specs.declared.id.CoreId.{CoreId}
use Rattle.ix_base.specs.declared.id.Owned.{Owned}
use Rattle.ix_mbuf.specs.declared.name.Name.{Name}
use Rattle.ix_mbuf.specs.Buffers.{Buffer}
use Rattle.ix_mbuf.specs.Owners.{maybe, one_at, weigh}
use Rattle.ix_mbuf.specs.Pools.{Stock, all_names, unused}
use Rattle.ix_ring.specs.Ends.{known}
use Rattle.ix_desk.specs.Desks.{group_at, groups_wait}
use Rattle.ix_desk.specs.Groups.{empty, unit_of, waits}
use Rattle.ix_desk.specs.Pieces.{joined, piece_waits}
use Rattle.ix_desk.specs.Views.{Arrival, CutPiece, Group, Piece, View}
use Rattle.ix_stack.specs.declared.work.Work.{Work}
use Rattle.ix_stack.specs.Works.{owned_count, work_weight, works_weight}
use Rattle.ix_nic.specs.Ports.{kept_count}
use Rattle.ix_core.specs.declared.turning.Core.{Core}
use Rattle.ix_core.specs.Counting.{app_of, app_over, frames_over, held_of, held_over, owned_at, owned_by, queue_of, queue_over}
use Rattle.ix_core.specs.Homing.{stock_weight}
use Rattle.ix_core.specs.Links.{IsDrained}
use Rattle.ix_core.specs.Renewing.{posted_weight}
use Rattle.ix_core.specs.Weights.{desks_weight, group_weight, piece_weight}
use Rattle.ix_homes.specs.Held.{kept_weight}
use Rattle.ix_homes.specs.Homes.{HomesAddUp, IsIdOf, IsLevel}
use Rattle.ix_homes.proofs.SettleLaws.{cores-split}
use Rattle.ix_homes.proofs.Sums.{sums-add, sums-split}

-- ## One core's buffers
-- a sum of which one term counts alone
sums-none : {X : Type 0} (w : X → ℕ) (xs : List X) → ((k : ℕ) (e : X) → k < length xs → w (get_or xs k e) ≡ 0) → sum_by w xs ≡ 0
sums-none w [] off = refl
sums-none w (x ∷ xs) off = omega (arith, sum_by-cons w x xs, off 0 x (omega arith), sums-none w xs (λ k e lt. off (suc k) e (omega (arith, lt))))

sums-one : {X : Type 0} (w : X → ℕ) (xs : List X) (c : ℕ) (d : X) (n : ℕ) → c < length xs → w (get_or xs c d) ≡ n → ((k : ℕ) (e : X) → k < length xs → k ≢ c → w (get_or xs k e) ≡ 0) → sum_by w xs ≡ n
sums-one w [] c d n lt here off = absurd (omega (arith, lt))
sums-one w (x ∷ xs) zero d n lt here off =
    omega (arith, here, sum_by-cons w x xs, sums-none w xs (λ k e h. off (suc k) e (omega (arith, h)) (λ is. omega (arith, is))))
sums-one w (x ∷ xs) (suc c) d n lt here off =
    omega (arith, sum_by-cons w x xs, off 0 x (omega arith) (λ is. omega (arith, is)), sums-one w xs c d n (omega (arith, lt)) here (λ k e h apart. off (suc k) e (omega (arith, h)) (λ is. apart (omega (arith, is)))))

here-at : (a h : ℕ) → a ≡ h → ◌≡◌ {A = ℕ} (if a == h then 1 else 0) 1
here-at a h e = let t : (a == h) ≡ true = grind (arith, nat_tests) in rw t refl

off-at : (a h : ℕ) → a ≢ h → ◌≡◌ {A = ℕ} (if a == h then 1 else 0) 0
off-at a h apart = let t : (a == h) ≡ false = grind (arith, nat_tests) in rw t refl

names-at : (h : ℕ) (home : CoreId) (n : ℕ) → home.0 ≡ h → weigh (one_at h) (all_names home n) ≡ n
names-at h home zero e = refl
names-at h home (suc n) e = omega (arith, sum_by_push (one_at h) (all_names home n) (unused home n), names-at h home n e, here-at home.0 h e)

names-off : (h : ℕ) (home : CoreId) (n : ℕ) → home.0 ≢ h → weigh (one_at h) (all_names home n) ≡ 0
names-off h home zero apart = refl
names-off h home (suc n) apart = omega (arith, sum_by_push (one_at h) (all_names home n) (unused home n), names-off h home n apart, off-at home.0 h apart)

own-at : {X : Type 0} (f : X → Name) (h : ℕ) (pool : Stock) (xs : List X) → pool.home.0 ≡ h → AllByRecursion (λ x. IsIdOf pool (f x).id) xs → sum_by (λ x. one_at h (f x)) xs ≡ length xs
own-at f h pool [] e own = refl
own-at f h pool (x ∷ xs) e own =
    omega (arith, sum_by-cons (λ z. one_at h (f z)) x xs, own-at f h pool xs e own.1, here-at (f x).id.home.0 h (ap (λ (c : CoreId). c.0) own.0.0 ∙ e))

own-off : {X : Type 0} (f : X → Name) (h : ℕ) (pool : Stock) (xs : List X) → pool.home.0 ≢ h → AllByRecursion (λ x. IsIdOf pool (f x).id) xs → sum_by (λ x. one_at h (f x)) xs ≡ 0
own-off f h pool [] apart own = refl
own-off f h pool (x ∷ xs) apart own =
    omega (arith, sum_by-cons (λ z. one_at h (f z)) x xs, own-off f h pool xs apart own.1, off-at (f x).id.home.0 h (λ e. apart (sym (ap (λ (c : CoreId). c.0) own.0.0) ∙ e)))

kept-at : (h : ℕ) (pool : Stock) (kept : Option Buffer) → pool.home.0 ≡ h → ((b : Buffer) → kept ≡ Some b → IsIdOf pool b.name.id) → maybe (λ (b : Buffer). one_at h b.name) kept ≡ kept_count kept
kept-at h pool None e own = refl
kept-at h pool (Some b) e own = here-at b.name.id.home.0 h (ap (λ (c : CoreId). c.0) (own b refl).0 ∙ e)

kept-off : (h : ℕ) (pool : Stock) (kept : Option Buffer) → pool.home.0 ≢ h → ((b : Buffer) → kept ≡ Some b → IsIdOf pool b.name.id) → maybe (λ (b : Buffer). one_at h b.name) kept ≡ 0
kept-off h pool None apart own = refl
kept-off h pool (Some b) apart own = off-at b.name.id.home.0 h (λ e. apart (sym (ap (λ (c : CoreId). c.0) (own b refl).0) ∙ e))

-- ## The desks
works-joined : {X : Type 0} (f : Name → ℕ) (w : X → List Work) (xs : List X) → works_weight f (joined w xs) ≡ sum_by (λ x. works_weight f (w x)) xs
works-joined f w [] = refl
works-joined f w (x ∷ xs) = omega (arith, sum_by-append (work_weight f) (w x) (joined w xs), works-joined f w xs, sum_by-cons (λ y. works_weight f (w y)) x xs)

module _ {U : Type 0} (drained : U → List Buffer → U → Type 0) (weight : (Name → ℕ) → U → ℕ) (owners : U → ℕ → Owned)
    (owners_weigh : (x : U) (bufs : List Buffer) (y : U) (home : ℕ) → drained x bufs y → owned_count (owners y home) ≡ weight (one_at home) y) (h : ℕ) where
  unit-owned : (o : Option U) → ((u : U) → o ≡ Some u → IsDrained drained u) → maybe (weight (one_at h)) o ≡ owned_count (owned_by owners h o)
  unit-owned None clean = refl
  unit-owned (Some u) clean = let d = clean u refl in sym (owners_weigh d.before d.bufs u h d.so)

  piece-owned : (p : Piece U Work) → ((u : U) → p.unit ≡ Some u → IsDrained drained u)
      → piece_weight (weight (one_at h)) (one_at h) p ≡ works_weight (one_at h) (piece_waits p) + owned_count (owned_by owners h p.unit)
  piece-owned p clean =
      omega (arith, unit-owned p.unit clean, sum_by-append (work_weight (one_at h)) p.remote (p.local ++ p.behind), sum_by-append (work_weight (one_at h)) p.local p.behind)

  -- a group with one piece at most
  level-owned : (c : Option (Piece U Work)) (arrived : List ℕ) (last : ℕ) → ((u : U) → unit_of (record { cut = []; current = c; early = []; arrived = arrived; last = last }) ≡ Some u → IsDrained drained u)
      → group_weight (weight (one_at h)) (one_at h) (record { cut = []; current = c; early = []; arrived = arrived; last = last })
      ≡ works_weight (one_at h) (waits (record { cut = []; current = c; early = []; arrived = arrived; last = last })) + owned_count (owned_at owners h (record { cut = []; current = c; early = []; arrived = arrived; last = last }))
  level-owned None arrived last clean = refl
  level-owned (Some p) arrived last clean = omega (arith, piece-owned p clean, sum_by-append (work_weight (one_at h)) (piece_waits p) [])

  group-owned : (g : Group U Work) → g.cut ≡ [] → g.early ≡ [] → ((u : U) → unit_of g ≡ Some u → IsDrained drained u)
      → group_weight (weight (one_at h)) (one_at h) g ≡ works_weight (one_at h) (waits g) + owned_count (owned_at owners h g)
  group-owned g cut early clean =
      let is : g ≡ record { cut = []; current = g.current; early = []; arrived = g.arrived; last = g.last } =
      ap (λ (c : List (CutPiece U Work)). let x : Group U Work = record { cut = c; current = g.current; early = g.early; arrived = g.arrived; last = g.last } in x) cut
      ∙ ap (λ (e : List (Arrival U Work)). let x : Group U Work = record { cut = []; current = g.current; early = e; arrived = g.arrived; last = g.last } in x) early in
      subst (λ (x : Group U Work). ((u : U) → unit_of x ≡ Some u → IsDrained drained u) → group_weight (weight (one_at h)) (one_at h) x ≡ works_weight (one_at h) (waits x) + owned_count (owned_at owners h x))
      (sym is) (level-owned g.current g.arrived g.last) clean

  owned-split : (gs : List (Group U Work)) → sum_by (λ g. owned_count (owned_at owners h g)) gs ≡ held_of owners h gs + (app_of owners h gs + queue_of owners h gs)
  owned-split gs =
      sums-add (λ (g : Group U Work). (owned_at owners h g).held) (λ g. (owned_at owners h g).app + (owned_at owners h g).queue) gs
      ∙ ap (λ n. held_of owners h gs + n) (sums-add (λ (g : Group U Work). (owned_at owners h g).app) (λ g. (owned_at owners h g).queue) gs)

  desks-owned : (v : View U Work) → IsLevel drained v
      → desks_weight (weight (one_at h)) (one_at h) v ≡ works_weight (one_at h) (groups_wait v) + (held_of owners h v.groups + (app_of owners h v.groups + queue_of owners h v.groups))
  desks-owned v level =
      omega (
        arith,
        sums-split (group_weight (weight (one_at h)) (one_at h)) (λ g. works_weight (one_at h) (waits g)) (λ g. owned_count (owned_at owners h g)) v.groups (λ k d lt. each k d lt),
        works-joined (one_at h) waits v.groups,
        owned-split v.groups,
      ) where
        each : (k : ℕ) (d : Group U Work) → k < length v.groups
            → group_weight (weight (one_at h)) (one_at h) (get_or v.groups k d) ≡ works_weight (one_at h) (waits (get_or v.groups k d)) + owned_count (owned_at owners h (get_or v.groups k d))
        each k d lt =
            let here : k < 512 = subst (λ n. k < n) level.size lt in
            subst (λ (x : Group U Work). group_weight (weight (one_at h)) (one_at h) x ≡ works_weight (one_at h) (waits x) + owned_count (owned_at owners h x)) (get_or_default v.groups k empty d lt)
            (group-owned (group_at v k) (level.cut k here) (level.early k here) (λ u e. level.clean k u here e))

  cores-owned : {E : Type 0} (cores : List (Core U E)) → ((c : ℕ) (d : Core U E) → c < length cores → IsLevel drained (get_or cores c d).desks)
      → sum_by (λ c. desks_weight (weight (one_at h)) (one_at h) c.desks) cores ≡ frames_over h cores + (held_over owners h cores + (app_over owners h cores + queue_over owners h cores))
  cores-owned {E} cores level =
      sums-split (λ (c : Core U E). desks_weight (weight (one_at h)) (one_at h) c.desks) (λ c. works_weight (one_at h) (groups_wait c.desks))
      (λ c. held_of owners h c.desks.groups + (app_of owners h c.desks.groups + queue_of owners h c.desks.groups)) cores (λ k d lt. desks-owned (get_or cores k d).desks (level k d lt))
      ∙ ap (λ n. frames_over h cores + n)
      (sums-add (λ (c : Core U E). held_of owners h c.desks.groups) (λ c. app_of owners h c.desks.groups + queue_of owners h c.desks.groups) cores
      ∙ ap (λ n. held_over owners h cores + n) (sums-add (λ (c : Core U E). app_of owners h c.desks.groups) (λ c. queue_of owners h c.desks.groups) cores))

-- ## The law
module _ {U E : Type 0} (drained : U → List Buffer → U → Type 0) (weight : (Name → ℕ) → U → ℕ) (owners : U → ℕ → Owned)
    (owners_weigh : (x : U) (bufs : List Buffer) (y : U) (home : ℕ) → drained x bufs y → owned_count (owners y home) ≡ weight (one_at home) y) where
  pub homes-add-up : HomesAddUp U E drained weight owners
  homes-add-up card cores is c p d lt =
      let h : ℕ = (get_or cores c d).pool.home.0 in
      omega (
        arith,
        is.same (λ i. if i.home.0 == h then 1 else 0),
        cores-split (weight (one_at h)) (one_at h) cores is.ready.keep,
        cores-owned drained weight owners owners_weigh h cores is.level,
        sums-one (stock_weight (one_at h)) cores c d (length (get_or cores c d).pool.free) lt (stock-here c d lt) (λ k e less apart. stock-off k e less h (other k e less apart)),
        sums-one (posted_weight (one_at h)) card.ports c p (length (known (get_or card.ports c p).posts)) in_ports
            (own-at (λ (b : Buffer). b.name) h (get_or cores c d).pool (known (get_or card.ports c p).posts) refl (recursion_from_All _ _ (is.posted c p d lt).posted))
            (λ k e less apart. own-off (λ (b : Buffer). b.name) h (get_or cores k d).pool (known (get_or card.ports k e).posts) (other k d (in_cores k less) apart)
            (recursion_from_All _ _ (is.posted k e d (in_cores k less)).posted)),
        sums-one (kept_weight (one_at h)) card.ports c p (kept_count (get_or card.ports c p).kept) in_ports
            (kept-at h (get_or cores c d).pool (get_or card.ports c p).kept refl (is.posted c p d lt).kept)
            (λ k e less apart. kept-off h (get_or cores k d).pool (get_or card.ports k e).kept (other k d (in_cores k less) apart) (is.posted k e d (in_cores k less)).kept),
        sums-one (λ (x : Core U E). weigh (one_at h) (all_names x.pool.home x.pool.n)) cores c d (get_or cores c d).pool.n lt (names-at h (get_or cores c d).pool.home (get_or cores c d).pool.n refl)
            (λ k e less apart. names-off h (get_or cores k e).pool.home (get_or cores k e).pool.n (other k e less apart)),
      ) where
        in_ports : c < length card.ports
        in_ports = subst (λ n. c < n) (sym is.ready.order.count) lt

        in_cores : (k : ℕ) → k < length card.ports → k < length cores
        in_cores k less = subst (λ n. k < n) is.ready.order.count less

        other : (k : ℕ) (e : Core U E) → k < length cores → k ≢ c → (get_or cores k e).pool.home.0 ≢ (get_or cores c d).pool.home.0
        other k e less apart same = apart (sym (is.ready.order.numbers k e less) ∙ same ∙ is.ready.order.numbers c d lt)

        stock-here : (k : ℕ) (e : Core U E) → k < length cores → stock_weight (one_at (get_or cores k e).pool.home.0) (get_or cores k e) ≡ length (get_or cores k e).pool.free
        stock-here k e less =
            rw (is.none k e less)
            (omega (arith, own-at (λ (x : Name). x) (get_or cores k e).pool.home.0 (get_or cores k e).pool (get_or cores k e).pool.free refl (recursion_from_All _ _ (is.free k e less))))

        stock-off : (k : ℕ) (e : Core U E) → k < length cores → (g : ℕ) → (get_or cores k e).pool.home.0 ≢ g → stock_weight (one_at g) (get_or cores k e) ≡ 0
        stock-off k e less g apart =
            rw (is.none k e less) (omega (arith, own-off (λ (x : Name). x) g (get_or cores k e).pool (get_or cores k e).pool.free apart (recursion_from_All _ _ (is.free k e less))))
