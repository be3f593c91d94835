-- The close: buffers that the card hands out, and flow groups that end.
use Rattle.std.proofs.Common.{◌≡◌, ◌≢◌, ◌<◌, ◌≤◌, ◌+◌, ◌-◌, ◌⊎◌, inl, inr, ℕ, zero, suc, false, None, Some, Option, List, [], ◌∷◌, ◌++◌, length, length-append, append-nil, append_assoc, get_or, set, map, take, sum_by, refl, sym, ap, subst, ◌∙◌, add-one, arith}
use Rattle.std.specs.Prelude.{option_to_list}
use Rattle.std.proofs.lemmas.List.Elements.{All-nil, All-same}
use mathlib.Core.List.{IsPrefix}
use Rattle.std.proofs.lemmas.Bool.{cases_eq}
use Rattle.std.proofs.lemmas.List.{get_or-append_right, get_or-set_other, get_or_append_left, map-append, take_all}
use Rattle.std.proofs.lemmas.List.Sums.{sum_by-append, sum_by-cons}
use Rattle.ix_base.specs.declared.id.BufId.{BufId}
use Rattle.ix_base.specs.declared.id.CoreId.{CoreId}
use Rattle.ix_base.specs.declared.id.GroupId.{GroupId}
use Rattle.ix_mbuf.specs.declared.name.Name.{Name}
use Rattle.ix_mbuf.specs.Buffers.{Buffer, buffers_weight}
use Rattle.ix_mbuf.specs.Owners.{at_home, one_at, one_if, times}
use Rattle.ix_mbuf.specs.Pools.{all_names, is_out_of}
use Rattle.ix_ring.specs.Ends.{known, taken, SameTakeEnd}
use Rattle.ix_desk.specs.Pieces.{joined}
use Rattle.ix_desk.specs.Views.{Group, View}
use Rattle.ix_desk.specs.Groups.{empty, unit_of, untaken, waits}
use Rattle.ix_desk.specs.Desks.{group_at}
use Rattle.ix_stack.specs.declared.work.Work.{Work}
use Rattle.ix_nic.specs.Cards.{CardView, ChangesOne}
use Rattle.ix_nic.specs.Offers.{unkept}
use Rattle.ix_nic.specs.Ports.{PortView, kept_count, posted_now}
use Rattle.ix_core.specs.declared.closing.Closed.{Closed}
use Rattle.ix_core.specs.declared.turning.Core.{Core}
use Rattle.ix_core.specs.Closing.{AllAreOwn, AllAreRecalled, AllFinished, CanClose, Closes, CoreClosed, DesksEnded, FewArePosted, Finishes, GroupEnded, GroupEnds, GroupsEnd, NothingWaits, PoolsAre, Recalled, RecallsSome, close_weight, port_holds, units_below, units_here, units_of}
use Rattle.ix_core.specs.Homing.{AllHomed, AreNumbered, CoreEmptied, CoreHomed, EachIs, GatheredSome, NoneOut, Passed, core_returns, stock_weight}
use Rattle.ix_core.specs.Renewing.{posted_count}
use Rattle.ix_core.proofs.LinkLaws.{get_any}
use Rattle.ix_core.proofs.Homings.{joined_more, nil_left, nil_right, passed_more, read_first, took_all, took_bufs, took_known, took_more, took_none}
use Rattle.ix_core.proofs.Renewals.{posted_is, sum_only, sum_same}
use Rattle.ix_core.proofs.Settlings.{none_kept, numbers_emptied, slots_emptied, slots_homed, weight_emptied}

pub head_of : {X : Type 0} (xs : List X) (i : ℕ) → i < length xs → X
head_of [] i lt = absurd (omega arith)
head_of (x ∷ xs) i lt = x

-- ## Buffers of a port
kept_zero : (o : Option Buffer) → option_to_list o ≡ [] → kept_count o ≡ 0
kept_zero None e = refl
kept_zero (Some b) e = cc

kept_none : (o : Option Buffer) → option_to_list o ≡ [] → o ≡ None
kept_none None e = refl
kept_none (Some b) e = cc

pub count_known : (p : PortView) → posted_count p ≤ 512 → option_to_list p.kept ≡ [] → posted_now p ≡ length (known p.posts)
count_known p few none = posted_is (posted_count p) few ∙ omega (arith, kept_zero p.kept none)

joined_ones : (bs : List Buffer) → joined (λ (b : Buffer). b ∷ []) bs ≡ bs
joined_ones [] = refl
joined_ones (b ∷ bs) = ap (λ l. b ∷ l) (joined_ones bs)

pub changes_none : (core : ℕ) (x : CardView) → ChangesOne core x x
changes_none core x = record { table = refl; count = refl; others = λ r d apart. refl }

pub recalls_none : (p : PortView) (bufs : List Buffer) → RecallsSome 0 p p bufs bufs
recalls_none p bufs = record { ring = refl; so = took_none (λ (b : Buffer). b ∷ []) p.posts bufs; rest = refl }

pub recalls_more : (i : ℕ) (p q q' : PortView) (before mid : List Buffer) (b : Buffer) → i < length (known p.posts) → RecallsSome i p q before mid → q' ≡ record q { posts = q'.posts; posted = q.posted - 1 }
    → SameTakeEnd q.posts q'.posts → taken q'.posts ≡ taken q.posts ++ b ∷ [] → IsPrefix (known q.posts) (b ∷ known q'.posts) → RecallsSome (i + 1) p q' before (mid ++ b ∷ [])
recalls_more i p q q' before mid b lt so is same took ahead = record {
  ring = same ∙ so.ring;
  so = took_more (λ (z : Buffer). z ∷ []) i p.posts q.posts q'.posts before mid b b lt so.so took ahead refl;
  rest = is ∙ ap (λ (k : PortView). record k { posts = q'.posts; posted = q.posted - 1 }) so.rest ∙ ap (λ n. record p { posts = q'.posts; posted = n }) (sym (ap (λ (k : PortView). k.posted) is));
}

pub recalls_known : (i : ℕ) (p q : PortView) (before mid : List Buffer) → i < length (known p.posts) → RecallsSome i p q before mid → known q.posts ≡ [] → ⊥
recalls_known i p q before mid lt so none = took_known (λ (b : Buffer). b ∷ []) i p.posts q.posts before mid lt so.so none

pub recalls_all : (i : ℕ) (p q : PortView) (before mid : List Buffer) → length (known p.posts) ≤ i → option_to_list p.kept ≡ [] → RecallsSome i p q before mid → Recalled p q
recalls_all i p q before mid le none so = record {
  ring = so.ring;
  took = took_all (λ (b : Buffer). b ∷ []) i p.posts q.posts before mid le so.so;
  rest = so.rest ∙ ap (λ (o : Option Buffer). record p { posts = q.posts; kept = o; posted = q.posted }) (kept_none p.kept none);
}

pub recalls_bufs : (i : ℕ) (p q : PortView) (before mid : List Buffer) → length (known p.posts) ≤ i → RecallsSome i p q before mid → mid ≡ before ++ known p.posts
recalls_bufs i p q before mid le so = took_bufs (λ (b : Buffer). b ∷ []) i p.posts q.posts before mid le so.so ∙ ap (λ l. before ++ l) (joined_ones (known p.posts))

pub recalled_unkept : (p q r : PortView) → q ≡ unkept p → Recalled q r → Recalled p r
recalled_unkept p q r is so = spot (subst (λ (k : PortView). Recalled k r) is so) where
  spot : Recalled (unkept p) r → Recalled p r
  spot s = record { ring = s.ring; took = s.took; rest = s.rest }

pub few_unkept : (p q : PortView) → q ≡ unkept p → posted_count p ≤ 512 → posted_count q ≤ 512
few_unkept p q is few = subst (λ (k : PortView). posted_count k ≤ 512) (sym is) (omega arith)

pub none_unkept : (p q : PortView) → q ≡ unkept p → option_to_list q.kept ≡ []
none_unkept p q is = ap (λ (k : PortView). option_to_list k.kept) is

pub holds_unkept : (p q : PortView) (before mid after : List Buffer) → q ≡ unkept p → mid ≡ before ++ option_to_list p.kept → after ≡ mid ++ known q.posts → after ≡ before ++ port_holds p
holds_unkept p q before mid after is first second =
    second ∙ ap (λ (k : PortView). mid ++ known k.posts) is ∙ ap (λ l. l ++ known p.posts) first ∙ append_assoc before (option_to_list p.kept) (known p.posts)

-- one port of the card after the other
gathered_next : (i : ℕ) (old mid next : CardView) (before bufs after : List Buffer) (e : PortView) → i < length mid.ports → ChangesOne i mid next
    → ((p : PortView) → Recalled (get_or mid.ports i p) (get_or next.ports i p)) → ((p : PortView) → after ≡ bufs ++ port_holds (get_or mid.ports i p))
    → GatheredSome Recalled port_holds i old.ports mid.ports before bufs → GatheredSome Recalled port_holds (i + 1) old.ports next.ports before after
gathered_next i old mid next before bufs after e lt one step more so = record {
  passed = record {
    count = one.count ∙ so.passed.count;
    done = λ k d below. spot k d below (cases_eq k i);
    rest = λ k d le. one.others k d (λ h. omega arith) ∙ so.passed.rest k d (omega arith);
  };
  bufs =
      let same : get_or mid.ports i e ≡ get_or old.ports i e = so.passed.rest i e (omega arith) in
      more e ∙ ap (λ (p : PortView). bufs ++ port_holds p) same ∙ ap (λ l. l ++ port_holds (get_or old.ports i e)) so.bufs
      ∙ append_assoc before (joined port_holds (take i old.ports)) (port_holds (get_or old.ports i e))
      ∙ ap (λ l. before ++ l) (sym (joined_more port_holds old.ports i e (omega (arith, lt, so.passed.count))));
} where
  spot : (k : ℕ) (d : PortView) → k < i + 1 → (k ≡ i) ⊎ (k ≢ i) → Recalled (get_or old.ports k d) (get_or next.ports k d)
  spot k d below (inl here) =
      let same : get_or mid.ports i d ≡ get_or old.ports k d = so.passed.rest i d (omega arith) ∙ ap (λ n. get_or old.ports n d) (sym here) in
      let last : get_or next.ports i d ≡ get_or next.ports k d = ap (λ n. get_or next.ports n d) (sym here) in
      subst (λ (p : PortView). Recalled (get_or old.ports k d) p) last (subst (λ (p : PortView). Recalled p (get_or next.ports i d)) same (step d))
  spot k d below (inr apart) =
      subst (λ (p : PortView). Recalled (get_or old.ports k d) p) (sym (one.others k d apart)) (so.passed.done k d (omega arith))

pub gathered_port : (id i : ℕ) (old mid next : CardView) (before bufs after : List Buffer) (e : PortView) → id ≡ i → i < length mid.ports → ChangesOne id mid next
    → ((p : PortView) → Recalled (get_or mid.ports id p) (get_or next.ports id p)) → ((p : PortView) → after ≡ bufs ++ port_holds (get_or mid.ports id p))
    → GatheredSome Recalled port_holds i old.ports mid.ports before bufs → GatheredSome Recalled port_holds (i + 1) old.ports next.ports before after
gathered_port id i old mid next before bufs after e same lt one step more so =
    gathered_next i old mid next before bufs after e lt (subst (λ n. ChangesOne n mid next) same one) (λ p. subst (λ n. Recalled (get_or mid.ports n p) (get_or next.ports n p)) same (step p))
    (λ p. subst (λ n. after ≡ bufs ++ port_holds (get_or mid.ports n p)) same (more p)) so

pub few_at : (id i : ℕ) (old mid : CardView) (before bufs : List Buffer) (p : PortView) → id ≡ i → i < length mid.ports → FewArePosted old.ports
    → GatheredSome Recalled port_holds i old.ports mid.ports before bufs → posted_count (get_or mid.ports id p) ≤ 512
few_at id i old mid before bufs p same lt few so =
    subst (λ n. posted_count (get_or mid.ports n p) ≤ 512) (sym same)
    (subst (λ (q : PortView). posted_count q ≤ 512) (sym (so.passed.rest i p (omega arith))) (few i p (omega (arith, lt, so.passed.count))))

-- ## Units that end
module _ {U : Type 0} (finished : U → List Buffer → U → Type 0) where
  finished_append : (us vs : List (ℕ × U)) (rs ss : List (GroupId × U)) (a b : List Buffer) → AllFinished finished us rs a → AllFinished finished vs ss b → AllFinished finished (us ++ vs) (rs ++ ss) (a ++ b)
  finished_append [] vs [] ss a b p q = subst (λ l. AllFinished finished vs ss (l ++ b)) (sym p) q
  finished_append [] vs (r ∷ rs) ss a b p q = absurd p
  finished_append (u ∷ us) vs [] ss a b p q = absurd p
  finished_append (u ∷ us) vs (r ∷ rs) ss a b p q =
      (p.0, p.1 ++ b, (p.2.0, p.2.1, ap (λ l. l ++ b) p.2.2 ∙ append_assoc p.0 p.1 b, finished_append us vs rs ss p.1 b p.2.3 q))

  pub finishes_none : (gs : List (GroupId × U)) (bs : List Buffer) → Finishes finished [] gs gs bs bs
  finishes_none gs bs = record { groups = []; out = []; all = refl; grown = sym (append-nil gs); bufs = sym (append-nil bs) }

  pub finishes_join : (us vs : List (ℕ × U)) (x y z : List (GroupId × U)) (p q r : List Buffer) → Finishes finished us x y p q → Finishes finished vs y z q r → Finishes finished (us ++ vs) x z p r
  finishes_join us vs x y z p q r a b = record {
    groups = a.groups ++ b.groups;
    out = a.out ++ b.out;
    all = finished_append us vs a.groups b.groups a.out b.out a.all b.all;
    grown = b.grown ∙ ap (λ l. l ++ b.groups) a.grown ∙ append_assoc x a.groups b.groups;
    bufs = b.bufs ∙ ap (λ l. l ++ b.out) a.bufs ∙ append_assoc p a.out b.out;
  }

  pub finishes_no : (g : ℕ) (o : Option U) (gs : List (GroupId × U)) (bs : List Buffer) → None ≡ o → Finishes finished (map (λ u. (g, u)) (option_to_list o ++ [])) gs gs bs bs
  finishes_no g o gs bs is = subst (λ (k : Option U). Finishes finished (map (λ u. (g, u)) (option_to_list k ++ [])) gs gs bs bs) is (finishes_none gs bs)

  pub finishes_one : (g : GroupId) (o : Option U) (u v : U) (out : List Buffer) (gs gs' : List (GroupId × U)) (bs bs' : List Buffer) → Some u ≡ o → finished u out v → gs' ≡ gs ++ (g, v) ∷ [] → bs' ≡ bs ++ out
      → Finishes finished (map (λ w. (g.0, w)) (option_to_list o ++ [])) gs gs' bs bs'
  finishes_one g o u v out gs gs' bs bs' is fact grown bufs = subst (λ (k : Option U). Finishes finished (map (λ w. (g.0, w)) (option_to_list k ++ [])) gs gs' bs bs') is (record {
    groups = (g, v) ∷ [];
    out = out;
    all = (out, [], (refl, fact, sym (append-nil out), refl));
    grown = grown;
    bufs = bufs;
  })

  pub finished_weighs : (weight : (Name → ℕ) → U → ℕ) → ((f : Name → ℕ) (x : U) (bufs : List Buffer) (y : U) → finished x bufs y → (buffers_weight f bufs ≡ weight f x) × (weight f y ≡ 0))
      → (f : Name → ℕ) (us : List (ℕ × U)) (rs : List (GroupId × U)) (out : List Buffer) → AllFinished finished us rs out → buffers_weight f out ≡ sum_by (λ u. weight f u.1) us
  finished_weighs weight law f [] [] out p = ap (buffers_weight f) p
  finished_weighs weight law f [] (r ∷ rs) out p = absurd p
  finished_weighs weight law f (u ∷ us) [] out p = absurd p
  finished_weighs weight law f (u ∷ us) (r ∷ rs) out p =
      omega (arith, ap (buffers_weight f) p.2.2, sum_by-append (λ (b : Buffer). f b.name) p.0 p.1, (law f u.1 p.0 r.1 p.2.1).0, finished_weighs weight law f us rs p.1 p.2.3, sum_by-cons (λ (z : ℕ × U). weight f z.1) u us)

joined_same : {X I : Type 0} (f : X → List I) (xs ys : List X) → length ys ≡ length xs → ((k : ℕ) (d : X) → k < length xs → f (get_or ys k d) ≡ f (get_or xs k d)) → joined f ys ≡ joined f xs
joined_same f [] [] len each = refl
joined_same f [] (y ∷ ys) len each = absurd (omega arith)
joined_same f (x ∷ xs) [] len each = absurd (omega arith)
joined_same f (x ∷ xs) (y ∷ ys) len each =
    let first : f y ≡ f x = each 0 x (omega arith) in
    let rest : joined f ys ≡ joined f xs = joined_same f xs ys (omega arith) (λ k d lt. each (suc k) d (omega arith)) in
    ap (λ l. l ++ joined f ys) first ∙ ap (λ l. f x ++ l) rest

joined_nil : {X I : Type 0} (f : X → List I) (xs : List X) (i : ℕ) (d : X) → joined f xs ≡ [] → f d ≡ [] → f (get_or xs i d) ≡ []
joined_nil f [] i d e out = out
joined_nil f (x ∷ xs) zero d e out = nil_left (f x) (joined f xs) e
joined_nil f (x ∷ xs) (suc i) d e out = joined_nil f xs i d (nil_right (f x) (joined f xs) e) out

untaken_at : {U : Type 0} (gs : List (Group U Work)) (g : ℕ) → get_or (set gs g (untaken (get_or gs g empty))) g empty ≡ untaken (get_or gs g empty)
untaken_at [] g = refl
untaken_at (x ∷ xs) zero = refl
untaken_at (x ∷ xs) (suc g) = untaken_at xs g

module _ {U E : Type 0} where
  pub units_none : (cores : List (Core U E)) → units_below cores 0 ≡ []
  unfolding units_below
  units_none cores = refl

  units_suc : (cores : List (Core U E)) (n : ℕ) → units_below cores (suc n) ≡ units_below cores n ++ units_of n cores
  unfolding units_below
  units_suc cores n = refl

  units_next : (cores : List (Core U E)) (n : ℕ) → units_below cores (n + 1) ≡ units_below cores n ++ units_of n cores
  units_next cores n = ap (units_below cores) (add-one n) ∙ units_suc cores n

  units_take : (g i : ℕ) (cores : List (Core U E)) (x : Core U E) → i < length cores → get_or cores i x ≡ x → units_of g (take (i + 1) cores) ≡ units_of g (take i cores) ++ units_of g (x ∷ [])
  units_take g i cores x lt read =
      let one : joined (units_here g) (take (i + 1) cores) ≡ joined (units_here g) (take i cores) ++ (units_here g x ++ []) =
      joined_more (units_here g) cores i x lt ∙ ap (λ (k : Core U E). joined (units_here g) (take i cores) ++ units_here g k) read
      ∙ ap (λ l. joined (units_here g) (take i cores) ++ l) (sym (append-nil (units_here g x))) in
      ap (map (λ u. (g, u))) one ∙ map-append (λ u. (g, u)) (joined (units_here g) (take i cores)) (units_here g x ++ [])

  -- ## One group on all cores
  pub ends_none : (finished : U → List Buffer → U → Type 0) (g : ℕ) (cores : List (Core U E)) (gs : List (GroupId × U)) (bs : List Buffer) → GroupEnds finished g 0 cores cores gs gs bs bs
  ends_none finished g cores gs bs = record {
    passed = record { count = refl; done = λ k d lt. absurd (omega arith); rest = λ k d le. refl };
    finishes = finishes_none finished gs bs;
  }

  pub ends_more : (finished : U → List Buffer → U → Type 0) (g i : ℕ) (cores cur next : List (Core U E)) (x y : Core U E) (gs gs' gs'' : List (GroupId × U)) (bs bs' bs'' : List Buffer) → i < length cur
      → x ≡ get_or cur i x → next ≡ set cur i y → GroupEnded g x y → Finishes finished (units_of g (x ∷ [])) gs' gs'' bs' bs'' → GroupEnds finished g i cores cur gs gs' bs bs'
      → GroupEnds finished g (i + 1) cores next gs gs'' bs bs''
  ends_more finished g i cores cur next x y gs gs' gs'' bs bs' bs'' lt read is ended one so = record {
    passed = subst (λ (l : List (Core U E)). Passed (GroupEnded g) (i + 1) cores l) (sym is) (passed_more (GroupEnded g) i cores cur x y lt read ended so.passed);
    finishes =
        subst (λ l. Finishes finished l gs gs'' bs bs'') (sym (units_take g i cores x (omega (arith, lt, so.passed.count)) (read_first (GroupEnded g) i cores cur x x lt read so.passed)))
        (finishes_join finished (units_of g (take i cores)) (units_of g (x ∷ [])) gs gs' gs'' bs bs' bs'' so.finishes one);
  }

  pub waits_at : (g i : ℕ) (cores cur : List (Core U E)) (x : Core U E) → i < length cur → x ≡ get_or cur i x → NothingWaits g cores → Passed (GroupEnded g) i cores cur → waits (group_at x.desks g) ≡ []
  waits_at g i cores cur x lt read none so =
      subst (λ (k : Core U E). waits (group_at k.desks g) ≡ []) (read_first (GroupEnded g) i cores cur x x lt read so) (none i x (omega (arith, lt, so.count)))

  -- ## All groups
  pub groups_none : (finished : U → List Buffer → U → Type 0) (cores : List (Core U E)) (gs : List (GroupId × U)) (bs : List Buffer) → GroupsEnd finished 0 cores cores gs gs bs bs
  groups_none finished cores gs bs = record {
    each = record { count = refl; each = λ k d lt. record { core = refl; failed = refl; done = λ g below. absurd (omega arith); later = λ g le. refl; rest = refl } };
    finishes = subst (λ l. Finishes finished l gs gs bs bs) (sym (units_none cores)) (finishes_none finished gs bs);
  }

  desks_more : (n : ℕ) (x y z : Core U E) → DesksEnded n x y → GroupEnded n y z → DesksEnded (n + 1) x z
  desks_more n x y z so one = record {
    core = ap (λ (v : View U Work). v.core) one.desks ∙ so.core;
    failed = ap (λ (v : View U Work). v.failed) one.desks ∙ so.failed;
    done = λ g below. spot g below (cases_eq g n);
    later = λ g le. other g (λ h. omega arith) ∙ so.later g (omega arith);
    rest = one.rest ∙ ap (λ (k : Core U E). record k { desks = z.desks }) so.rest;
  } where
    other : (g : ℕ) → g ≢ n → group_at z.desks g ≡ group_at y.desks g
    other g apart = ap (λ (v : View U Work). group_at v g) one.desks ∙ get_or-set_other y.desks.groups n g (untaken (group_at y.desks n)) empty apart

    spot : (g : ℕ) → g < n + 1 → (g ≡ n) ⊎ (g ≢ n) → group_at z.desks g ≡ untaken (group_at x.desks g)
    spot g below (inl here) =
        ap (λ k. group_at z.desks k) here ∙ ap (λ (v : View U Work). group_at v n) one.desks ∙ untaken_at y.desks.groups n ∙ ap untaken (so.later n (omega arith)) ∙ ap (λ k. untaken (group_at x.desks k)) (sym here)
    spot g below (inr apart) = other g apart ∙ so.done g (omega arith)

  pub groups_more : (finished : U → List Buffer → U → Type 0) (n m : ℕ) (x y z : List (Core U E)) (gs gs' gs'' : List (GroupId × U)) (bs bs' bs'' : List Buffer) → m ≡ length y
      → GroupsEnd finished n x y gs gs' bs bs' → GroupEnds finished n m y z gs' gs'' bs' bs'' → GroupsEnd finished (n + 1) x z gs gs'' bs bs''
  groups_more finished n m x y z gs gs' gs'' bs bs' bs'' whole so one = record {
    each = record {
      count = one.passed.count ∙ so.each.count;
      each = λ k d lt. desks_more n (get_or x k d) (get_or y k d) (get_or z k d) (so.each.each k d lt) (one.passed.done k d (omega (arith, lt, whole, so.each.count)));
    };
    finishes =
        let all : take m y ≡ y = take_all m y (omega (arith, whole)) in
        let same : joined (units_here n) y ≡ joined (units_here n) x =
        joined_same (units_here n) x y so.each.count (λ k d lt. ap (λ (g : Group U Work). option_to_list (unit_of g)) ((so.each.each k d lt).later n (omega arith))) in
        let units : units_of n (take m y) ≡ units_of n x = ap (units_of n) all ∙ ap (map (λ u. (n, u))) same in
        subst (λ l. Finishes finished l gs gs'' bs bs'') (sym (units_next x n))
        (finishes_join finished (units_below x n) (units_of n x) gs gs' gs'' bs bs' bs'' so.finishes (subst (λ l. Finishes finished l gs' gs'' bs' bs'') units one.finishes));
  }

  pub waits_later : (finished : U → List Buffer → U → Type 0) (n : ℕ) (x y : List (Core U E)) (gs gs' : List (GroupId × U)) (bs bs' : List Buffer) → NothingWaits n x → GroupsEnd finished n x y gs gs' bs bs'
      → NothingWaits n y
  waits_later finished n x y gs gs' bs bs' none so c d lt =
      let within : c < length x = omega (arith, lt, so.each.count) in
      subst (λ (g : Group U Work). waits g ≡ []) (sym ((so.each.each c d within).later n (omega arith))) (none c d within)

  pub nothing_waits : (card : CardView) (x y : List (Core U E)) → CanClose card x → EachIs CoreEmptied x y → (g : ℕ) → NothingWaits g y
  nothing_waits card x y can so g c d lt =
      let within : c < length x = omega (arith, lt, so.count) in
      let same : (get_or y c d).desks ≡ (get_or x c d).desks = ap (λ (k : Core U E). k.desks) (so.each c d within).rest in
      subst (λ (v : View U Work). waits (group_at v g) ≡ []) (sym same) (joined_nil waits (get_or x c d).desks.groups g empty (can.no_items c d within) refl)

  -- ## Pools
  pub pools_none : (pools : List ℕ) (cores : List (Core U E)) → pools ≡ [] → PoolsAre 0 pools cores
  pools_none pools cores none = record { count = ap length none; each = λ c d m lt. absurd (omega arith); own = λ c d lt. absurd (omega arith); foreign = λ c d home lt apart. absurd (omega arith) }

  pools_at : (i : ℕ) (pools : List ℕ) (cores : List (Core U E)) (n : ℕ) → ((d : Core U E) → n ≡ length (get_or cores i d).pool.free) → PoolsAre i pools cores → (c : ℕ) (d : Core U E) (m : ℕ) → c < i + 1
      → (c ≡ i) ⊎ (c ≢ i) → get_or (pools ++ n ∷ []) c m ≡ length (get_or cores c d).pool.free
  pools_at i pools cores n one so c d m lt (inl here) =
      let place : c ≡ length pools = here ∙ sym so.count in
      let first : c - length pools ≡ 0 = omega arith in
      get_or-append_right pools (n ∷ []) (length pools) c m refl (omega arith) ∙ ap (λ k. get_or (n ∷ []) k m) first ∙ one d ∙ ap (λ k. length (get_or cores k d).pool.free) (sym here)
  pools_at i pools cores n one so c d m lt (inr apart) = get_or_append_left pools (n ∷ []) m c (omega (arith, so.count)) ∙ so.each c d m (omega arith)

  -- one more core, of which something holds
  pool_at : (P : Core U E → Type 0) (i : ℕ) (cores : List (Core U E)) (x : Core U E) → i < length cores → x ≡ get_or cores i x → P x → ((c : ℕ) (d : Core U E) → c < i → P (get_or cores c d)) → (c : ℕ) (d : Core U E)
      → c < i + 1 → (c ≡ i) ⊎ (c ≢ i) → P (get_or cores c d)
  pool_at P i cores x lt read one so c d below (inl here) = subst (λ (k : ℕ). P (get_or cores k d)) (sym here) (subst P (read ∙ get_any cores i x d lt) one)
  pool_at P i cores x lt read one so c d below (inr apart) = so c d (omega arith)

  pub pools_more : (i : ℕ) (pools after : List ℕ) (cores : List (Core U E)) (x : Core U E) (n : ℕ) → i < length cores → x ≡ get_or cores i x → after ≡ pools ++ n ∷ [] → n ≡ length x.pool.free
      → at_home x.pool.home.0 x.pool.free ≡ n → ((home : ℕ) → home ≢ x.pool.home.0 → at_home home x.pool.free ≡ 0) → PoolsAre i pools cores → PoolsAre (i + 1) after cores
  pools_more i pools after cores x n lt read is one own foreign so = record {
    count = omega (arith, ap length is, length-append pools (n ∷ []), so.count);
    each = λ c d m below. ap (λ (l : List ℕ). get_or l c m) is
        ∙ pools_at i pools cores n (λ e. one ∙ ap (λ (k : Core U E). length k.pool.free) (read ∙ get_any cores i x e lt)) so c d m below (cases_eq c i);
    own = λ c d below. pool_at (λ (k : Core U E). at_home k.pool.home.0 k.pool.free ≡ length k.pool.free) i cores x lt read (own ∙ one) so.own c d below (cases_eq c i);
    foreign = λ c d home below. pool_at (λ (k : Core U E). home ≢ k.pool.home.0 → at_home home k.pool.free ≡ 0) i cores x lt read (foreign home) (λ k e less. so.foreign k e home less) c d below (cases_eq c i);
  }

  -- ## All together
  stock_ended : (f : Name → ℕ) (n : ℕ) (x y : List (Core U E)) → EachIs (DesksEnded n) x y → sum_by (stock_weight f) y ≡ sum_by (stock_weight f) x
  stock_ended f n x y so = sum_same (stock_weight f) (stock_weight f) x y so.count (λ k d lt. ap (λ (c : Core U E). stock_weight f c) (so.each k d lt).rest)

  pub numbers_ended : (card : CardView) (n : ℕ) (x y v : List (Core U E)) → CanClose card x → EachIs CoreEmptied x y → EachIs (DesksEnded n) y v → AreNumbered v
  numbers_ended card n x y v can empty ended c d lt =
      let within : c < length y = omega (arith, lt, ended.count) in
      ap (λ (k : Core U E). k.pool.home.0) (ended.each c d within).rest ∙ numbers_emptied x y empty can.order.numbers c d within

  none_ended : (n : ℕ) (x y v : List (Core U E)) → EachIs CoreEmptied x y → EachIs (DesksEnded n) y v → NoneOut v
  none_ended n x y v empty ended c h d e below_c below_h =
      let within : c < length y = omega (arith, below_c, ended.count) in
      let none : (get_or v c d).returns.items ≡ [] = ap (λ (k : Core U E). k.returns.items) (ended.each c d within).rest ∙ (empty.each c d (omega (arith, within, empty.count))).returns in
      All-same (λ (b : Buffer). is_out_of (get_or v h e).pool b.name.id ≡ false) (get_or v c d).returns.items [] none (All-nil (λ (b : Buffer). is_out_of (get_or v h e).pool b.name.id ≡ false))

  units_same : (n : ℕ) (x y : List (Core U E)) → EachIs CoreEmptied x y → units_below y n ≡ units_below x n
  units_same zero x y so = units_none y ∙ sym (units_none x)
  units_same (suc n) x y so =
      let here : joined (units_here n) y ≡ joined (units_here n) x = joined_same (units_here n) x y so.count (λ k d lt. ap (λ (c : Core U E). units_here n c) (so.each k d lt).rest) in
      units_suc y n ∙ ap (λ l. l ++ units_of n y) (units_same n x y so) ∙ ap (λ l. units_below x n ++ map (λ u. (n, u)) l) here ∙ sym (units_suc x n)

  core_parts : (x w y v : Core U E) → y.links ≡ w.links → v.desks ≡ w.desks
      → ◌≡◌ {A = Core U E} (record x { pool = w.pool; returns = w.returns; links = y.links; desks = v.desks }) (record x { pool = w.pool; returns = w.returns; links = w.links; desks = w.desks })
  core_parts x w y v p q = cc

  closed_core : (x y v w : Core U E) → CoreEmptied x y → DesksEnded 512 y v → CoreHomed v w → CoreClosed x w
  closed_core x y v w empty ended homed =
      let links : w.links ≡ y.links = ap (λ (k : Core U E). k.links) homed.rest ∙ ap (λ (k : Core U E). k.links) ended.rest in
      let desks : w.desks ≡ v.desks = ap (λ (k : Core U E). k.desks) homed.rest in
      let before : y.desks ≡ x.desks = ap (λ (k : Core U E). k.desks) empty.rest in
      let middle : v ≡ record x { links = y.links; returns = y.returns; desks = v.desks } = ended.rest ∙ ap (λ (k : Core U E). record k { desks = v.desks }) empty.rest in
      record {
        links = rw links empty.links;
        core = ap (λ (d : View U Work). d.core) desks ∙ ended.core ∙ ap (λ (d : View U Work). d.core) before;
        failed = ap (λ (d : View U Work). d.failed) desks ∙ ended.failed ∙ ap (λ (d : View U Work). d.failed) before;
        groups = λ g lt. ap (λ (d : View U Work). group_at d g) desks ∙ ended.done g lt ∙ ap (λ (d : View U Work). untaken (group_at d g)) before;
        home = homed.home ∙ ap (λ (k : Core U E). k.pool.home) ended.rest ∙ ap (λ (k : Core U E). k.pool.home) empty.rest;
        slots = homed.number ∙ ap (λ (k : Core U E). k.pool.n) ended.rest ∙ ap (λ (k : Core U E). k.pool.n) empty.rest;
        rest = homed.rest ∙ ap (λ (k : Core U E). record k { pool = w.pool; returns = w.returns }) middle ∙ core_parts x w y v (sym links) (sym desks);
      }

  slots_ended : (id : BufId) (n : ℕ) (x y : List (Core U E)) → EachIs (DesksEnded n) x y
      → sum_by (λ (v : Core U E). times id (all_names v.pool.home v.pool.n)) y ≡ sum_by (λ (v : Core U E). times id (all_names v.pool.home v.pool.n)) x
  slots_ended id n x y so =
      sum_same (λ (v : Core U E). times id (all_names v.pool.home v.pool.n)) (λ (v : Core U E). times id (all_names v.pool.home v.pool.n)) x y so.count
      (λ k d lt. ap (λ (c : Core U E). times id (all_names c.pool.home c.pool.n)) (so.each k d lt).rest)

  -- a pool is full where all its buffers are in pools, and in no other
  full_so : (n : ℕ) (home : CoreId) (f : Name → ℕ) (w : List (Core U E)) (c : ℕ) (d : Core U E) → f ≡ one_at home.0 → (get_or w c d).pool.home ≡ home → c < length w
      → ((k : ℕ) (e : Core U E) → k < length w → (get_or w k e).returns.items ≡ []) → ((k : ℕ) (e : Core U E) → k < length w → (get_or w k e).pool.home.0 ≡ k)
      → at_home (get_or w c d).pool.home.0 (get_or w c d).pool.free ≡ length (get_or w c d).pool.free
      → ((k : ℕ) (e : Core U E) (h : ℕ) → k < length w → h ≢ (get_or w k e).pool.home.0 → at_home h (get_or w k e).pool.free ≡ 0)
      → sum_by (stock_weight f) w ≡ n → length (get_or w c d).pool.free ≡ n
  full_so n home f w c d weighs is lt none numbers own foreign whole =
      let place : home.0 ≡ c = sym (ap (λ (h : CoreId). h.0) is) ∙ numbers c d lt in
      let others : (k : ℕ) (e : Core U E) → k < length w → k ≢ c → stock_weight f (get_or w k e) ≡ 0 = λ k e less apart.
      let free : sum_by f (get_or w k e).pool.free ≡ 0 = ap (λ (g : Name → ℕ). sum_by g (get_or w k e).pool.free) weighs ∙ foreign k e home.0 less (λ same. apart (omega (arith, same, place, numbers k e less))) in
      omega (arith, free, ap (buffers_weight f) (none k e less)) in
      let one = sum_only (stock_weight f) w c d lt others in
      let here : sum_by f (get_or w c d).pool.free ≡ length (get_or w c d).pool.free =
      ap (λ (g : Name → ℕ). sum_by g (get_or w c d).pool.free) weighs ∙ ap (λ (h : CoreId). at_home h.0 (get_or w c d).pool.free) (sym is) ∙ own in
      omega (arith, one, here, whole, ap (buffers_weight f) (none c d lt))

  pub closes_so : (finished : U → List Buffer → U → Type 0) (weight : (Name → ℕ) → U → ℕ)
      → ((f : Name → ℕ) (u : U) (bufs : List Buffer) (v : U) → finished u bufs v → (buffers_weight f bufs ≡ weight f u) × (weight f v ≡ 0))
      → (closed : Closed U E) (card card' : CardView) (x y v w : List (Core U E)) (gs : List (GroupId × U)) (b1 b2 b3 : List Buffer) → CanClose card x → EachIs CoreEmptied x y → b1 ≡ joined core_returns x
      → AllAreRecalled card card' b1 b2 → gs ≡ [] → GroupsEnd finished 512 y v gs closed.groups.items b2 b3 → AllHomed b3 v w → PoolsAre (length w) closed.pools.items w
      → Closes finished weight closed card card' x w
  closes_so finished weight law closed card card' x y v w gs b1 b2 b3 can empty first recalled fresh ended homed pools = record {
    table = recalled.table;
    ports = recalled.ports;
    each = record {
      count = count;
      each = λ k d lt. closed_core (get_or x k d) (get_or y k d) (get_or v k d) (get_or w k d) (empty.each k d lt) (ended.each.each k d (omega (arith, lt, empty.count))) (homed.cores k d);
    };
    groups = (ended.finishes.out, all);
    whole = whole;
    none = λ own c d lt. none own c d (omega (arith, lt, count));
    pools = subst (λ n. PoolsAre n closed.pools.items w) count pools;
    full = λ own there c d m lt.
        let within : c < length w = omega (arith, lt, count) in
        pools.each c d m within
        ∙ full_so (get_or x c d).pool.n (get_or x c d).pool.home (one_at (get_or x c d).pool.home.0) w c d refl (homes c d lt) within (λ k e less. none own k e less) (λ k e less. numbers k e less) (pools.own c d within) (λ k e h less apart. pools.foreign k e h less apart)
        (whole (one_at (get_or x c d).pool.home.0) ∙ there c d lt);
  } where
    count : length w ≡ length x
    count = homed.count ∙ ended.each.count ∙ empty.count

    grown : closed.groups.items ≡ ended.finishes.groups
    grown = ended.finishes.grown ∙ ap (λ l. l ++ ended.finishes.groups) fresh

    units : units_below y 512 ≡ units_below x 512
    units = units_same 512 x y empty

    all : AllFinished finished (units_below x 512) closed.groups.items ended.finishes.out
    all = subst (λ l. AllFinished finished (units_below x 512) l ended.finishes.out) (sym grown) (subst (λ l. AllFinished finished l ended.finishes.groups ended.finishes.out) units ended.finishes.all)

    whole : (f : Name → ℕ) → sum_by (stock_weight f) w ≡ close_weight weight f card x
    whole f =
        omega (
          arith,
          homed.weight f,
          stock_ended f 512 y v ended.each,
          weight_emptied f x y empty,
          ap (buffers_weight f) ended.finishes.bufs,
          sum_by-append (λ (b : Buffer). f b.name) b2 ended.finishes.out,
          ap (buffers_weight f) recalled.bufs,
          sum_by-append (λ (b : Buffer). f b.name) b1 (joined port_holds card.ports),
          ap (buffers_weight f) first,
          finished_weighs finished weight law f (units_below x 512) closed.groups.items ended.finishes.out all,
        )

    slots : (id : BufId) → sum_by (λ (c : Core U E). times id (all_names c.pool.home c.pool.n)) w ≡ sum_by (λ (c : Core U E). times id (all_names c.pool.home c.pool.n)) x
    slots id = slots_homed id v w b3 homed ∙ slots_ended id 512 y v ended.each ∙ slots_emptied id x y empty

    homes : (c : ℕ) (d : Core U E) → c < length x → (get_or w c d).pool.home ≡ (get_or x c d).pool.home
    homes c d lt =
        let in_y : c < length y = omega (arith, lt, empty.count) in
        (homed.cores c d).home ∙ ap (λ (k : Core U E). k.pool.home) (ended.each.each c d in_y).rest ∙ ap (λ (k : Core U E). k.pool.home) (empty.each c d lt).rest

    numbers : (c : ℕ) (d : Core U E) → c < length w → (get_or w c d).pool.home.0 ≡ c
    numbers c d lt = let within : c < length x = omega (arith, lt, count) in ap (λ (h : CoreId). h.0) (homes c d within) ∙ can.order.numbers c d within

    none : AllAreOwn weight card x → (c : ℕ) (d : Core U E) → c < length w → (get_or w c d).returns.items ≡ []
    none own c d lt = none_kept w (homed.none (none_ended 512 x y v empty ended.each)) (λ id. omega (arith, whole (one_if id), own id, slots id)) c d lt

  -- the number of a core by its place
  pub number_of : (i : ℕ) (cores : List (Core U E)) (x : Core U E) → i < length cores → x ≡ get_or cores i x → AreNumbered cores → x.pool.home.0 ≡ i
  number_of i cores x lt read order = ap (λ (k : Core U E). k.pool.home.0) read ∙ order i x lt
