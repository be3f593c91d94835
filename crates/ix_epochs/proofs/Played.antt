-- How the cores' histories of an epoch join.
use Rattle.std.proofs.Common.{◌≡◌, ◌<◌, ◌≤◌, ◌+◌, ◌-◌, ◌⊎◌, ◌++◌, inl, inr, ℕ, suc, Bool, List, [], ◌∷◌, length, map, get_or, refl, sym, ap, subst, ◌∙◌, append-nil, arith}
use Rattle.std.proofs.lemmas.Bool.{cases_lt, cases_order}
use Rattle.std.proofs.lemmas.List.{append_cancel_left}
use Rattle.ix_mbuf.specs.Buffers.{Buffer}
use Rattle.ix_ring.specs.Ends.{put_list, taken}
use Rattle.ix_desk.specs.Pieces.{joined}
use Rattle.ix_stack.specs.declared.item.Item.{Item}
use Rattle.ix_stack.specs.declared.work.Work.{Work}
use Rattle.ix_nic.specs.Ports.{PortView, whole}
use Rattle.ix_history.specs.Events.{Event, Happened, Parcel, came, worked}
use Rattle.ix_history.specs.Items.{came_from, gone_to, taken_in}
use Rattle.ix_history.specs.Join.{In}
use Rattle.ix_history.specs.Runs.{Runs}
use Rattle.ix_feed.specs.Replays.{FeedView}
use Rattle.ix_core.specs.declared.link.Link.{Link}
use Rattle.ix_core.specs.declared.turning.Core.{Core}
use Rattle.ix_core.specs.Cores.{Ran}
use Rattle.ix_core.specs.Items.{ring_item}
use Rattle.ix_core.specs.Landing.{parcel_of, ship_in}
use Rattle.ix_core.specs.Links.{LinkRan, all_of, cores_of, from_place, parcel_lost, parcel_to}
use Rattle.ix_core.specs.Meeting.{AreMeshed, link_at, other_core}
use Rattle.ix_epochs.specs.Epochs.{EpochRan}
use Rattle.ix_epochs.specs.Playing.{EpochPlays, named}
use Rattle.ix_epochs.specs.Ready.{IsReady}
use Rattle.ix_epochs.specs.Rest.{LinkRests}
use Rattle.ix_epochs.proofs.Histories.{AreOthers, CameFrom, came_so, for_place, from_so, gone_so, in_works, lower_core, lower_place, named_gone, named_runs, named_taken, none_from_self, none_to_self, other_most, parcel_for, parcel_from, self_unknown, upper_core, upper_place, where_from}
use Rattle.ix_epochs.proofs.Links.{place_within}
use Rattle.ix_epochs.proofs.Places.{get_any, one_of}
use Rattle.ix_epochs.proofs.Readiness.{whole_so}

module _ {U E : Type 0} where
  -- the links of a core go to all others
  others_from : (c k : ℕ) (links : List (Link U E)) → ((p : ℕ) (e : Link U E) → p < length links → (get_or links p e).core.0 ≡ other_core c (k + p)) → AreOthers c k (cores_of links)
  others_from c k [] so = tt
  others_from c k (l ∷ links) so = (
    so 0 l (omega arith) ∙ ap (other_core c) (omega arith),
    others_from c (suc k) links (λ p e lt. so (suc p) e (omega arith) ∙ ap (other_core c) (omega arith)),
  )

  pub are_others : (cores : List (Core U E)) (c : ℕ) (d : Core U E) → AreMeshed cores → c < length cores → AreOthers c 0 (cores_of (get_or cores c d).links.items)
  are_others cores c d m lt =
      others_from c 0 (get_or cores c d).links.items
      (λ p e within. m.others c p d e lt (place_within cores c p d (m.links c d lt) within) ∙ ap (other_core c) (omega arith))

  cores_count : (links : List (Link U E)) → length (cores_of links) ≡ length links
  cores_count [] = refl
  cores_count (l ∷ links) = ap suc (cores_count links)

  core_default : (cores : List (Core U E)) (c : ℕ) (d d' : Core U E) (p : ℕ) (e : Link U E) → c < length cores → link_at cores c p d e ≡ link_at cores c p d' e
  core_default cores c d d' p e lt = ap (λ (k : Core U E). get_or k.links.items p e) (get_any cores c d d' lt)

  -- what one core shipped over a link landed at the other
  one_way : (cores cores' : List ℕ) (p q : ℕ) (ins ins' : List (ℕ × Parcel U Work)) (bufs bufs' : List Buffer) (outs outs' : List (Parcel U Work)) (a a' b b' : Link U E)
      → LinkRan cores p ins bufs outs a a' → LinkRan cores' q ins' bufs' outs' b b' → LinkRests a → LinkRests a' → LinkRests b → LinkRests b'
      → put_list a.put ≡ taken b.take → put_list a'.put ≡ taken b'.take → joined (parcel_to cores p) outs ≡ joined (from_place q) ins'
  one_way cores cores' p q ins ins' bufs bufs' outs outs' a a' b b' there here ra ra' rb rb' before after =
      let grown : put_list a'.put ≡ put_list a.put ++ there.sent =
      sym (append-nil (put_list a'.put)) ∙ ap (λ l. put_list a'.put ++ l) (sym ra'.waits) ∙ there.put ∙ ap (λ l. put_list a.put ++ (l ++ there.sent)) ra.waits in
      let same : there.sent ≡ here.messages =
      append_cancel_left (put_list a.put) there.sent here.messages (sym grown ∙ after ∙ here.heard ∙ ap (λ l. l ++ here.messages) (sym before)) in
      let ships : joined ship_in here.messages ≡ here.landed =
      ap (λ l. l ++ joined ship_in here.messages) (sym rb.ships) ∙ here.ships ∙ ap (λ l. here.landed ++ l) rb'.ships ∙ append-nil here.landed in
      sym there.shipments ∙ ap (λ l. map parcel_of (joined ship_in l)) same ∙ ap (map parcel_of) ships ∙ here.landings

module _ {U E : Type 0} (counted : Work → Bool) (name : Work → ℕ) (stepped : U → List (ℕ × ℕ)) (advanced : U → E → ℕ → List Work → U → Type 0) (drained : U → List Buffer → U → Type 0) (env : E) where
  module _ (f g : FeedView) (old new : List (Core U E)) (ready : IsReady f.card old) (after : IsReady g.card new) (ran : EpochRan counted name stepped advanced drained env f g old new) where
    within : (c : ℕ) → c < length old → c < length new
    within c lt = omega (arith, ran.cores.count, lt)

    its : (c : ℕ) → c < length old → Core U E
    its c lt = one_of old c lt

    made : (c : ℕ) (lt : c < length old) → Ran counted name stepped advanced drained env (get_or old c (its c lt)) (get_or new c (its c lt))
    made c lt = (ran.cores.each c (its c lt) lt).ran (ran.over.rest c (its c lt) (within c lt)).found

    -- ## The histories
    abbrev history_at : (c : ℕ) → (c < length old) ⊎ (length old ≤ c) → List (Event U Work (List Buffer))
    history_at c (inl lt) = map (named c) (made c lt).run.events
    history_at c (inr le) = []

    abbrev items_at : (c : ℕ) → (c < length old) ⊎ (length old ≤ c) → List Item
    items_at c (inl lt) = (made c lt).items
    items_at c (inr le) = []

    runs : (c : ℕ) (d : Core U E) (t : (c < length old) ⊎ (length old ≤ c)) → c < length old
        → Runs (Happened counted name stepped advanced drained env) (get_or old c d).desks (history_at c t) (get_or new c d).desks
    runs c d (inl lt) also =
        let x = get_any old c d (its c lt) lt in
        let y = get_any new c d (its c lt) (within c lt) in
        rw (x, y) (named_runs counted name stepped advanced drained env c (made c lt).run.events (get_or old c (its c lt)).desks (get_or new c (its c lt)).desks (made c lt).run.runs)
    runs c d (inr le) also = absurd (omega arith)

    took : (c : ℕ) (t : (c < length old) ⊎ (length old ≤ c)) → c < length old → taken_in (history_at c t) ≡ map ring_item (items_at c t)
    took c (inl lt) also =
        let m = made c lt in
        let dealt : m.items ≡ m.dealt =
        ap (λ l. l ++ m.items) (sym (ready.keep c (its c lt) lt).came) ∙ m.queue ∙ ap (λ l. m.dealt ++ l) (after.keep c (its c lt) (within c lt)).came ∙ append-nil m.dealt in
        named_taken c m.run.events ∙ m.run.took_all ∙ ap (map ring_item) (sym dealt)
    took c (inr le) also = absurd (omega arith)

    put : (c : ℕ) (p : PortView) (t : (c < length old) ⊎ (length old ≤ c)) → c < length old → whole (get_or g.card.ports c p) ≡ whole (get_or f.card.ports c p) ++ items_at c t
    put c p (inl lt) also =
        let was = whole_so (get_or f.card.ports c p) (get_or old c (its c lt)) (ready.ports c p (its c lt) lt) in
        let is = whole_so (get_or g.card.ports c p) (get_or new c (its c lt)) (after.ports c p (its c lt) (within c lt)) in
        is ∙ (made c lt).took ∙ ap (λ l. l ++ (made c lt).items) (sym was)
    put c p (inr le) also = absurd (omega arith)

    -- ## The mesh
    links_to : (c : ℕ) (lt : c < length old) → AreOthers c 0 (cores_of (get_or old c (its c lt)).links.items)
    links_to c lt = are_others old c (its c lt) ready.order.mesh lt

    count : (c : ℕ) (lt : c < length old) → length (get_or old c (its c lt)).links.items + 1 ≡ length old
    count c lt = ready.order.mesh.links c (its c lt) lt

    link : (c : ℕ) (lt : c < length old) (p : ℕ) (e : Link U E) → p < length (get_or old c (its c lt)).links.items
        → LinkRan (cores_of (get_or old c (its c lt)).links.items) p (made c lt).ins (all_of (made c lt).frees) (made c lt).outs (link_at old c p (its c lt) e) (link_at new c p (its c lt) e)
    link c lt p e inside = (made c lt).links.each p e inside

    rests_before : (c : ℕ) (lt : c < length old) (p : ℕ) (e : Link U E) → p < length (get_or old c (its c lt)).links.items → LinkRests (link_at old c p (its c lt) e)
    rests_before c lt p e inside = (ready.keep c (its c lt) lt).links p e inside

    rests_after : (c : ℕ) (lt : c < length old) (p : ℕ) (e : Link U E) → p < length (get_or old c (its c lt)).links.items → LinkRests (link_at new c p (its c lt) e)
    rests_after c lt p e inside = (after.keep c (its c lt) (within c lt)).links p e (omega (arith, (made c lt).links.count, inside))

    -- what a lower core shipped to an upper one, and what an upper one shipped to a lower one
    upwards : (a b : ℕ) (in_a : a < length old) (in_b : b < length old) → a < b → joined (parcel_to (cores_of (get_or old a (its a in_a)).links.items) (b - 1)) (made a in_a).outs ≡ joined (from_place a) (made b in_b).ins
    upwards a b in_a in_b lt =
        let room_a : b - 1 < length (get_or old a (its a in_a)).links.items = omega (arith, count a in_a, lt, in_b) in
        let room_b : a < length (get_or old b (its b in_b)).links.items = omega (arith, count b in_b, lt) in
        let e = one_of (get_or old a (its a in_a)).links.items (b - 1) room_a in
        let first = core_default old b (its b in_b) (its a in_a) a e in_b in
        let second = core_default new b (its b in_b) (its a in_a) a e (within b in_b) in
        one_way _ _ (b - 1) a _ _ _ _ _ _ (link_at old a (b - 1) (its a in_a) e) (link_at new a (b - 1) (its a in_a) e) (link_at old b a (its b in_b) e) (link_at new b a (its b in_b) e)
        (link a in_a (b - 1) e room_a) (link b in_b a e room_b) (rests_before a in_a (b - 1) e room_a) (rests_after a in_a (b - 1) e room_a) (rests_before b in_b a e room_b) (rests_after b in_b a e room_b)
        ((ready.mesh a b (its a in_a) e lt in_b).0 ∙ ap (λ (l : Link U E). taken l.take) (sym first)) ((after.mesh a b (its a in_a) e lt (within b in_b)).0 ∙ ap (λ (l : Link U E). taken l.take) (sym second))

    downwards : (a b : ℕ) (in_a : a < length old) (in_b : b < length old) → a < b → joined (parcel_to (cores_of (get_or old b (its b in_b)).links.items) a) (made b in_b).outs ≡ joined (from_place (b - 1)) (made a in_a).ins
    downwards a b in_a in_b lt =
        let room_a : b - 1 < length (get_or old a (its a in_a)).links.items = omega (arith, count a in_a, lt, in_b) in
        let room_b : a < length (get_or old b (its b in_b)).links.items = omega (arith, count b in_b, lt) in
        let e = one_of (get_or old a (its a in_a)).links.items (b - 1) room_a in
        let first = core_default old b (its b in_b) (its a in_a) a e in_b in
        let second = core_default new b (its b in_b) (its a in_a) a e (within b in_b) in
        one_way _ _ a (b - 1) _ _ _ _ _ _ (link_at old b a (its b in_b) e) (link_at new b a (its b in_b) e) (link_at old a (b - 1) (its a in_a) e) (link_at new a (b - 1) (its a in_a) e)
        (link b in_b a e room_b) (link a in_a (b - 1) e room_a) (rests_before b in_b a e room_b) (rests_after b in_b a e room_b) (rests_before a in_a (b - 1) e room_a) (rests_after a in_a (b - 1) e room_a)
        (ap (λ (l : Link U E). put_list l.put) first ∙ (ready.mesh a b (its a in_a) e lt in_b).1) (ap (λ (l : Link U E). put_list l.put) second ∙ (after.mesh a b (its a in_a) e lt (within b in_b)).1)

    gone : (c d : ℕ) (lt : c < length old) → gone_to d (history_at c (inl lt)) ≡ joined (parcel_for d) (made c lt).outs
    gone c d lt = named_gone c d (made c lt).run.events ∙ gone_so d (made c lt).run.events ∙ ap (joined (parcel_for d)) (made c lt).run.shipped_all

    arrived : (c d : ℕ) (lt : d < length old) → came_from c (history_at d (inl lt)) ≡ joined (parcel_from c d) (made d lt).ins
    arrived c d lt = came_so c d (made d lt).run.events ∙ ap (joined (parcel_from c d)) (made d lt).run.landed_all

    -- a core ships nothing to itself, since no flow group was lost
    none_to : (c : ℕ) (lt : c < length old) → joined (parcel_for c) (made c lt).outs ≡ []
    none_to c lt =
        let cores = cores_of (get_or old c (its c lt)).links.items in
        let was = (ready.keep c (its c lt) lt).lost in
        let is = (after.keep c (its c lt) (within c lt)).lost in
        none_to_self cores c (made c lt).outs (self_unknown c 0 cores (links_to c lt))
        (ap (λ l. map parcel_of l ++ joined (parcel_lost cores) (made c lt).outs) (sym was) ∙ sym (made c lt).lost ∙ ap (map parcel_of) is)

    mesh_of : (c d : ℕ) (in_c : c < length old) (in_d : d < length old) → (c ≡ d) ⊎ ((c < d) ⊎ (d < c)) → joined (parcel_for d) (made c in_c).outs ≡ joined (parcel_from c d) (made d in_d).ins
    mesh_of c d in_c in_d (inl same) =
        subst (λ (k : ℕ). joined (parcel_for k) (made c in_c).outs ≡ []) same (none_to c in_c)
        ∙ sym (subst (λ (k : ℕ). joined (parcel_from k d) (made d in_d).ins ≡ []) (sym same) (none_from_self d (made d in_d).ins))
    mesh_of c d in_c in_d (inr (inl lt)) =
        let cores = cores_of (get_or old c (its c in_c)).links.items in
        let room : d - 1 < length cores = omega (arith, cores_count (get_or old c (its c in_c)).links.items, count c in_c, lt, in_d) in
        for_place c cores (d - 1) d (made c in_c).outs (links_to c in_c) room (upper_core d c lt) ∙ upwards c d in_c in_d lt ∙ sym (from_so c d c (made d in_d).ins (λ p. lower_place c d p lt))
    mesh_of c d in_c in_d (inr (inr lt)) =
        let cores = cores_of (get_or old c (its c in_c)).links.items in
        let room : d < length cores = omega (arith, cores_count (get_or old c (its c in_c)).links.items, count c in_c, lt) in
        for_place c cores d d (made c in_c).outs (links_to c in_c) room (lower_core d c lt) ∙ downwards d c in_d in_c lt ∙ sym (from_so c d (c - 1) (made d in_d).ins (λ p. upper_place c d p lt))

    mesh : (c d : ℕ) (s : (c < length old) ⊎ (length old ≤ c)) (t : (d < length old) ⊎ (length old ≤ d)) → c < length old → d < length old → gone_to d (history_at c s) ≡ came_from c (history_at d t)
    mesh c d (inl in_c) (inl in_d) also_c also_d = gone c d in_c ∙ mesh_of c d in_c in_d (cases_order c d) ∙ sym (arrived c d in_d)
    mesh c d (inr le) t also_c also_d = absurd (omega arith)
    mesh c d (inl in_c) (inr le) also_c also_d = absurd (omega arith)

    from_there : (c d : ℕ) (lt : d < length old) → CameFrom c d (made d lt).run.events → c < length old
    from_there c d lt so = by (cases_lt so.place (length (get_or old d (its d lt)).links.items)) where
      by : (so.place < length (get_or old d (its d lt)).links.items) ⊎ (length (get_or old d (its d lt)).links.items ≤ so.place) → c < length old
      by (inl inside) = omega (arith, so.is, other_most d so.place, count d lt, inside)
      by (inr beyond) = absurd (so.some (ap (joined (from_place so.place)) (made d lt).run.landed_all ∙ (made d lt).links.none so.place beyond))

    from : (c d : ℕ) (s : Parcel U Work) (t : (d < length old) ⊎ (length old ≤ d)) → d < length old → In (came c s) (history_at d t) → c < length old
    from c d s (inl lt) also here = from_there c d lt (where_from c d s (made d lt).run.events here)
    from c d s (inr le) also here = absurd (omega arith)

    bounds : (c max : ℕ) (d : Core U E) (t : (c < length old) ⊎ (length old ≤ c)) → c < length old → In (worked max) (history_at c t) → max ≤ (get_or old c d).batch
    bounds c max d (inl lt) also here =
        let within_bound = in_works (λ m. m ≤ (get_or old c (its c lt)).batch) c max (made c lt).run.events here (made c lt).bounds in
        let same : (get_or old c d).batch ≡ (get_or old c (its c lt)).batch = ap (λ (k : Core U E). k.batch) (get_any old c d (its c lt) lt) in
        rw same within_bound
    bounds c max d (inr le) also here = absurd (omega arith)

    pub epoch_plays : EpochPlays counted name stepped advanced drained env f.card g.card old new
    epoch_plays = record {
      history = λ c. history_at c (cases_lt c (length old));
      items = λ c. items_at c (cases_lt c (length old));
      runs = λ c d lt. runs c d (cases_lt c (length old)) lt;
      took = λ c lt. took c (cases_lt c (length old)) lt;
      put = λ c p lt. put c p (cases_lt c (length old)) lt;
      mesh = λ c d in_c in_d. mesh c d (cases_lt c (length old)) (cases_lt d (length old)) in_c in_d;
      from = λ c d s lt here. from c d s (cases_lt d (length old)) lt here;
      bounds = λ c max d lt here. bounds c max d (cases_lt c (length old)) lt here;
      rest = λ c d lt. (ran.over.rest c d (within c lt)).idle;
    }
