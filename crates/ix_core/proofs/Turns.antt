-- The parts of one turn.
use Rattle.std.proofs.Common.{◌≡◌, ◌≤◌, ◌<◌, ◌+◌, ◌⊎◌, ℕ, zero, suc, Bool, true, false, List, [], ◌∷◌, ◌++◌, length, get_or, sum_by, refl, sym, ap, subst, ◌∙◌, append-nil, arith}
use Rattle.std.specs.Prelude.{◌||◌, count_by, if◌then◌else◌, nat_lt, not}
use Rattle.std.specs.List.{list_any}
use Rattle.std.proofs.lemmas.List.Sums.{sum_by-append, sum_by-cons}
use Rattle.ix_mbuf.specs.declared.name.Name.{Name}
use Rattle.ix_mbuf.specs.Buffers.{Buffer, buffers_weight}
use Rattle.ix_ring.specs.Views.{PutView, TakeView}
use Rattle.ix_ring.specs.Ends.{known, put_list, taken}
use Rattle.ix_desk.specs.Pieces.{joined}
use Rattle.ix_desk.specs.Views.{View}
use Rattle.ix_history.specs.Events.{Event, Happened, Parcel, RingItem, at_end, came, for_each, for_group, gone, lent, took, worked}
use Rattle.ix_history.specs.Run.{Run}
use Rattle.ix_history.specs.Runs.{Runs}
use Rattle.ix_stack.specs.declared.item.Item.{Item}
use Rattle.ix_stack.specs.Items.{is_frame}
use Rattle.ix_stack.specs.declared.work.Work.{Work}
use Rattle.ix_core.specs.declared.link.Link.{Link}
use Rattle.ix_core.specs.declared.message.Message.{Message}
use Rattle.ix_core.specs.Landing.{home_in}
use Rattle.ix_core.specs.LinkRuns.{links_join}
use Rattle.ix_core.specs.Links.{HeardUp, LinksRan, all_out, all_put, all_taken, buffer_left, homes_weight, link_waits, puts_of, takes_of}
use Rattle.ix_core.proofs.LinkLaws.{waits_by_count}
use Rattle.ix_core.specs.Runs.{Bounded, Calm, bounded-calm, bounded-joins, calm-joins}

either : (b : Bool) → (if b then 1 else 0) + (if not b then 1 else 0) ≡ 1
either true = refl
either false = refl

-- where no item is a control item, all are frames
all_frames : (xs : List Item) → count_by (λ x. not (is_frame x)) xs ≡ 0 → count_by is_frame xs ≡ length xs
all_frames [] e = refl
all_frames (x ∷ xs) e =
    let one = sum_by-cons (λ (y : Item). if is_frame y then 1 else 0) x xs in
    let two = sum_by-cons (λ (y : Item). if not (is_frame y) then 1 else 0) x xs in
    let rest = all_frames xs (omega (arith, two, e)) in
    omega (arith, one, two, e, rest, either (is_frame x))

pub frames_taken : (frames control : List Item) (n m : ℕ) → count_by (λ x. not (is_frame x)) frames ≡ 0 → n ≡ length frames → m ≤ n
    → m ≤ count_by is_frame (frames ++ control)
frames_taken frames control n m all number few =
    omega (arith, few, number, all_frames frames all, sum_by-append (λ (y : Item). if is_frame y then 1 else 0) frames control)

pub turn_weighs : (f : Name → ℕ) (p0 p1 p2 h0 h1 h4 : ℕ) (cores cores' : List ℕ) (bufs posts r0 r1 r2 r3 r4 : List Buffer)
    → p2 + buffers_weight f r4 ≡ p1 + buffers_weight f r3 → p1 + (buffers_weight f r3 + buffers_weight f posts) ≡ p0 + buffers_weight f r2
    → r2 ≡ r1 ++ joined (buffer_left cores') bufs → cores' ≡ cores → buffers_weight f r1 + h0 ≡ buffers_weight f r0 + h1 → h4 ≡ h1
    → (p2 + buffers_weight f r4) + (buffers_weight f posts + h0) ≡ (p0 + buffers_weight f r0) + (buffers_weight f (joined (buffer_left cores) bufs) + h4)
turn_weighs f p0 p1 p2 h0 h1 h4 cores cores' bufs posts r0 r1 r2 r3 r4 give post kept same hear quiet =
    let left = ap (buffers_weight f) (kept ∙ ap (λ cs. r1 ++ joined (buffer_left cs) bufs) same)
    ∙ sum_by-append (λ (b : Buffer). f b.name) r1 (joined (buffer_left cores) bufs) in
    omega (arith, give, post, left, hear, quiet)

pub unfailed : (b : Bool) → (b ≡ true → ⊥) → b ≡ false
unfailed true never = absurd (never refl)
unfailed false never = refl

module _ {U E : Type 0} where
  -- ## The ends of links that take are the same ones
  by_takes : (w : TakeView (Message U E) → ℕ) (links : List (Link U E)) → sum_by (λ (l : Link U E). w l.take) links ≡ sum_by w (takes_of links)
  by_takes w [] = refl
  by_takes w (l ∷ links) = omega (arith, by_takes w links, sum_by-cons (λ (k : Link U E). w k.take) l links, sum_by-cons w l.take (takes_of links))

  takes_weigh : (w : TakeView (Message U E) → ℕ) (old new : List (Link U E)) → takes_of new ≡ takes_of old → sum_by (λ (l : Link U E). w l.take) new ≡ sum_by (λ (l : Link U E). w l.take) old
  takes_weigh w old new same = by_takes w new ∙ ap (sum_by w) same ∙ sym (by_takes w old)

  pub homes_same : (f : Name → ℕ) (old new : List (Link U E)) → takes_of new ≡ takes_of old → homes_weight f new ≡ homes_weight f old
  homes_same f old new same = takes_weigh (λ t. buffers_weight f (joined home_in (taken t))) old new same

  taken_same : (old new : List (Link U E)) → takes_of new ≡ takes_of old → all_taken new ≡ all_taken old
  taken_same old new same = takes_weigh (λ t. length (taken t)) old new same

  by_puts : (w : PutView (Message U E) → ℕ) (links : List (Link U E)) → sum_by (λ (l : Link U E). w l.put) links ≡ sum_by w (puts_of links)
  by_puts w [] = refl
  by_puts w (l ∷ links) = omega (arith, by_puts w links, sum_by-cons (λ (k : Link U E). w k.put) l links, sum_by-cons w l.put (puts_of links))

  put_same : (old new : List (Link U E)) → puts_of new ≡ puts_of old → all_put new ≡ all_put old
  put_same old new same = let w = λ (p : PutView (Message U E)). length (put_list p) in by_puts w new ∙ ap (sum_by w) same ∙ sym (by_puts w old)

  pub take_at : (a b : List (Link U E)) (i : ℕ) (d : Link U E) → takes_of a ≡ takes_of b → (get_or a i d).take ≡ (get_or b i d).take
  take_at [] [] i d e = refl
  take_at [] (y ∷ ys) i d e = absurd (cc)
  take_at (x ∷ xs) [] i d e = absurd (cc)
  take_at (x ∷ xs) (y ∷ ys) zero d e = cc
  take_at (x ∷ xs) (y ∷ ys) (suc i) d e = take_at xs ys i d (cc)

  -- what was heard stays heard
  pub heard_up : (old mid new : List (Link U E)) → takes_of new ≡ takes_of mid → ((i : ℕ) (d : Link U E) → i < length old → HeardUp (get_or old i d) (get_or mid i d))
      → (i : ℕ) (d : Link U E) → i < length old → HeardUp (get_or old i d) (get_or new i d)
  heard_up old mid new same so i d lt =
      let h = so i d lt in
      let e : (get_or new i d).take ≡ (get_or mid i d).take = take_at new mid i d same in
      record {
        messages = h.messages;
        heard = ap taken e ∙ h.heard;
        stops = subst (λ (l : List (Message U E)). (length h.messages ≡ 256) ⊎ ((length h.messages < 256) × (l ≡ []))) (ap known (sym e)) h.stops;
      }

  -- a turn was quiet where no part of it had something to do
  pub quiet_so : (heard busy waits : Bool) (old mid sending new : List (Link U E)) → heard ≡ nat_lt (all_taken old) (all_taken mid) → waits ≡ list_any link_waits sending
      → takes_of new ≡ takes_of mid → puts_of sending ≡ puts_of old → all_out new ≡ all_out sending
      → not ((heard || busy) || waits) ≡ not ((nat_lt (all_taken old) (all_taken new) || busy) || nat_lt (all_put old) (all_out new))
  quiet_so heard busy waits old mid sending new h w takes puts whole =
      let one : heard ≡ nat_lt (all_taken old) (all_taken new) = h ∙ ap (λ n. nat_lt (all_taken old) n) (sym (taken_same mid new takes)) in
      let two : waits ≡ nat_lt (all_put old) (all_out new) =
      w ∙ waits_by_count sending ∙ ap (λ n. nat_lt n (all_out sending)) (put_same old sending puts) ∙ ap (λ n. nat_lt (all_put old) n) (sym whole) in
      ap (λ a. not ((a || busy) || waits)) one ∙ ap (λ b. not ((nat_lt (all_taken old) (all_taken new) || busy) || b)) two

  pub whole_links : (ins : List (ℕ × Parcel U Work)) (bufs : List Buffer) (outs : List (Parcel U Work)) (a b c d e : List (Link U E))
      → LinksRan ins [] [] a b → LinksRan [] bufs [] b c → LinksRan [] [] outs c d → LinksRan [] [] [] d e → LinksRan ins bufs outs a e
  whole_links ins bufs outs a b c d e p q r s =
      let de : LinksRan [] [] (outs ++ []) c e = links_join [] [] [] [] outs [] c d e r s in
      let ce : LinksRan [] (bufs ++ []) (outs ++ []) b e = links_join [] [] bufs [] [] (outs ++ []) b c e q de in
      let ae : LinksRan (ins ++ []) (bufs ++ []) (outs ++ []) a e = links_join ins [] [] (bufs ++ []) [] (outs ++ []) a b e p ce in
      simp append-nil at ae

module _ {U E : Type 0} (counted : Work → Bool) (name : Work → ℕ) (stepped : U → List (ℕ × ℕ)) (advanced : U → E → ℕ → List Work → U → Type 0) (drained : U → List Buffer → U → Type 0) (env : E) where
  pub whole_run : (most : ℕ) (d0 d1 d2 d3 d4 d5 : View U Work) (items : List (RingItem Work)) (ins : List (ℕ × Parcel U Work)) (frees : List (List Buffer)) (outs : List (Parcel U Work))
      → Calm counted name stepped advanced drained env d0 d1 [] ins [] [] → Calm counted name stepped advanced drained env d1 d2 items [] [] [] → Bounded counted name stepped advanced drained env most d2 d3 [] [] [] []
      → Calm counted name stepped advanced drained env d3 d4 [] [] frees [] → Calm counted name stepped advanced drained env d4 d5 [] [] [] outs → Bounded counted name stepped advanced drained env most d0 d5 items ins frees outs
  whole_run most d0 d1 d2 d3 d4 d5 items ins frees outs a b c d e =
      let calmly = bounded-calm counted name stepped advanced drained env most in
      let joins = bounded-joins counted name stepped advanced drained env most in
      let de : Bounded counted name stepped advanced drained env most d3 d5 [] [] (frees ++ []) outs = joins d3 d4 d5 [] [] [] [] frees [] [] outs (calmly d3 d4 [] [] frees [] d) (calmly d4 d5 [] [] [] outs e) in
      let ce : Bounded counted name stepped advanced drained env most d2 d5 [] [] (frees ++ []) outs = joins d2 d3 d5 [] [] [] [] [] (frees ++ []) [] outs c de in
      let be : Bounded counted name stepped advanced drained env most d1 d5 (items ++ []) [] (frees ++ []) outs = joins d1 d2 d5 items [] [] [] [] (frees ++ []) [] outs (calmly d1 d2 items [] [] [] b) ce in
      let ae : Bounded counted name stepped advanced drained env most d0 d5 (items ++ []) (ins ++ []) (frees ++ []) outs = joins d0 d1 d5 [] (items ++ []) ins [] [] (frees ++ []) [] outs (calmly d0 d1 [] ins [] [] a) be in
      simp append-nil at ae

  -- flow groups land, and items are dealt
  pub arrivals : (d0 d1 d2 : View U Work) (items : List (RingItem Work)) (ins : List (ℕ × Parcel U Work)) → Calm counted name stepped advanced drained env d0 d1 [] ins [] []
      → Calm counted name stepped advanced drained env d1 d2 items [] [] [] → Calm counted name stepped advanced drained env d0 d2 items ins [] []
  arrivals d0 d1 d2 items ins a b =
      let both_of : Calm counted name stepped advanced drained env d0 d2 items (ins ++ []) [] [] = calm-joins counted name stepped advanced drained env d0 d1 d2 [] items ins [] [] [] [] [] a b in
      simp append-nil at both_of

  event_failed : (e : Event U Work (List Buffer)) (x y : View U Work) → Happened counted name stepped advanced drained env x e y → y.failed ≡ x.failed
  event_failed (took (for_group g it)) x y h = ap (λ (v : View U Work). v.failed) h.1
  event_failed (took (for_each w)) x y h = ap (λ (v : View U Work). v.failed) h
  event_failed (took at_end) x y h = ap (λ (v : View U Work). v.failed) h
  event_failed (came c s) x y h = ap (λ (v : View U Work). v.failed) h.1
  event_failed (worked most) x y h = h.failed
  event_failed (gone s) x y h = ap (λ (v : View U Work). v.failed) h.over
  event_failed (lent g u bufs v) x y h = ap (λ (v : View U Work). v.failed) h.2

  runs_failed : (es : List (Event U Work (List Buffer))) (x y : View U Work) → Runs (Happened counted name stepped advanced drained env) x es y → y.failed ≡ x.failed
  runs_failed [] x y p = ap (λ (v : View U Work). v.failed) p
  runs_failed (e ∷ es) x y p = runs_failed es p.0 y p.2 ∙ event_failed e x p.0 p.1

  pub run_failed : (x y : View U Work) (items : List (RingItem Work)) (ins : List (ℕ × Parcel U Work)) (frees : List (List Buffer)) (outs : List (Parcel U Work))
      → Run counted name stepped advanced drained env x y items ins frees outs → y.failed ≡ x.failed
  run_failed x y items ins frees outs r = runs_failed r.events x y r.runs
