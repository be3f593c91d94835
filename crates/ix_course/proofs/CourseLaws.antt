-- From settle to settle.
use Rattle.std.proofs.Common.{◌≡◌, ◌+◌, ◌<◌, ◌≤◌, ◌⊎◌, inl, inr, ◌==◌, ℕ, zero, suc, Bool, true, false, List, [], ◌∷◌, ◌++◌, length, length-append, map, get_or, refl, sym, ap, subst, ◌∙◌, append_assoc, arith}
use Rattle.std.specs.Prelude.{if◌then◌else◌, drop, Option, Some, None, slice_get, fold}
use Rattle.std.specs.List.{AllByRecursion}
use Rattle.std.proofs.lemmas.Bool.{cases_lt}
use Rattle.std.proofs.lemmas.List.{append_cancel_left, get_or_default, get_or_past, map-append}
use Rattle.std.proofs.lemmas.List.Folds.{list_any_none}
use Rattle.ix_base.specs.declared.id.WireNo.{WireNo}
use Rattle.ix_base.specs.declared.id.TheConstants.{FLOW_GROUPS}
use Rattle.ix_mbuf.specs.declared.name.Name.{Name}
use Rattle.ix_desk.specs.Views.{Group, View}
use Rattle.ix_desk.specs.Desks.{group_at}
use Rattle.ix_desk.specs.Groups.{at_home, done_of, empty, group_has_work}
use Rattle.ix_history.specs.Events.{Parcel, came}
use Rattle.ix_history.specs.Items.{came_from, gone_to, taken_in, told}
use Rattle.ix_history.specs.Join.{In, IsIdle, Played}
use Rattle.ix_history.specs.Runs.{Runs}
use Rattle.ix_lines.specs.declared.types.EntryLine.{EntryLine}
use Rattle.ix_lines.specs.declared.types.EntryLine.TheVariants as lines
use Rattle.ix_lines.specs.declared.types.SettleLine.{SettleLine}
use Rattle.ix_nic.specs.Entries.{AreCarriedOut, turned_by}
use Rattle.ix_nic.specs.Ports.{PortView, whole}
use Rattle.ix_nic.specs.Words.{seats, word, words_on}
use Rattle.ix_order.specs.Wire.{NameCores, RingsAre, Table, put_on}
use Rattle.ix_order.specs.Wire as order
use Rattle.ix_stack.specs.declared.item.Item.{Item}
use Rattle.ix_stack.specs.declared.work.Work.{Work}
use Rattle.ix_wire.specs.declared.entry.Entry.{Entry}
use Rattle.ix_wire.specs.declared.entry.Entry.TheVariants as wire
use Rattle.ix_wire.specs.Entries.{EachAllowed, IsWire, IsWireSoFar, Terms}
use Rattle.ix_core.specs.Items.{ring_item}
use Rattle.ix_feed.specs.Feeding as feeding
use Rattle.ix_feed.specs.Replays.{FeedView, left_of}
use Rattle.ix_feed.specs.Told.{EntriesAreFed, ItemsAreTold, IsTold as IsFed, RingIsTold, RingsAreTold}
use Rattle.ix_feed.specs.Turns.{FeedBecame, comes_before_the_end, ended_by}
use Rattle.ix_fits.specs.Card.{entry_of, opening_table}
use Rattle.ix_fits.specs.Wires.{CanBeJoined, IsPlayable, WiresArePlayable, WiresCanBeJoined}
use Rattle.ix_plainstack.specs.Batches.{is_frame_work, work_number}
use Rattle.ix_plainstack.specs.Stack.{Stack, Advances, Drains}
use Rattle.ix_epochs.specs.Playing.{EpochPlays}
use Rattle.ix_settled.specs.Moments.{AreTold, AtSettle, GoesOn, HasRecord, IsRingItemTold, Moment, Opening, Settled, StackHappened, stack_steps}
use Rattle.ix_course.specs.Course.{AreLinesOf, EpochsReachSettles, IsAt, OpeningsBegin, PlayCore, Reached, SettlesStay, with_names}
use Rattle.ix_course.proofs.Carried.{EndsSo, are-seen, epoch-ends, fed-lines, fed-records, lines-append, time-at, words-of-lines}
use Rattle.ix_course.proofs.Histories.{came-append, gone-append, runs-append, taken-append}
use Rattle.ix_course.proofs.Fronts.{so-far-front}
use Rattle.ix_course.proofs.Bounds.{IsBelow, are-below}
use Rattle.ix_course.proofs.Rings.{AreNumbered, put-on-append, put-on-numbered, put-on-same, rings-append, rings-same, turned-by-append, turned-by-same}
use Rattle.ix_course.proofs.ToldItems.{all-append, get-within, items-fed, items-stay, name-before, name-on, told-words}

-- ## Lists of cores
-- some element of a list that isn't empty
any_of : {X : Type 0} (xs : List X) (k : ℕ) → k < length xs → X
any_of [] k lt = absurd (omega (arith, lt))
any_of (x ∷ xs) k lt = x

desks_or : Option PlayCore → View Stack Work → View Stack Work
desks_or (Some c) v = c.desks
desks_or None v = v

desks_in : List PlayCore → (ℕ → View Stack Work) → ℕ → View Stack Work
desks_in cores v c = desks_or (slice_get cores c) (v c)

desks-found : (cores : List PlayCore) (v : View Stack Work) (c : ℕ) (d : PlayCore) → c < length cores → (get_or cores c d).desks ≡ desks_or (slice_get cores c) v
unfolding desks_or
desks-found [] v c d lt = absurd (omega (arith, lt))
desks-found (k ∷ ks) v zero d lt = refl
desks-found (k ∷ ks) v (suc c) d lt = desks-found ks v c d (omega (arith, lt))

in-split : {X : Type 0} (x : X) (xs ys : List X) → In x (xs ++ ys) → In x xs ⊎ In x ys
in-split x [] ys h = inr h
in-split x (z ∷ xs) ys (inl e) = inl (inl e)
in-split x (z ∷ xs) ys (inr h) = more (in-split x xs ys h) where
  more : In x xs ⊎ In x ys → In x (z ∷ xs) ⊎ In x ys
  more (inl a) = inl (inr a)
  more (inr b) = inr b

-- ## Other names
at-named : (p : Opening) (f : WireNo → Name) (m : Moment) → AtSettle p m → AtSettle (with_names p f) m
at-named p f m a = record { played = a.played; alternate = a.alternate }

on-named : (p : Opening) (f : WireNo → Name) (m m' : Moment) → GoesOn p m m' → GoesOn (with_names p f) m m'
on-named p f m m' a = record { between = a.between; no_settle = a.no_settle; done = a.done; more = a.more; history = a.history; runs = a.runs; bounds = a.bounds }

settled-named : (p : Opening) (f : WireNo → Name) (ms : List Moment) → Settled p ms → Settled (with_names p f) ms
settled-named p f [] h = h
settled-named p f (m ∷ []) h = record { settle = at-named p f m h.settle; done = h.done; bounds = h.bounds }
settled-named p f (m ∷ before ∷ ms) h = (at-named p f m h.0, on-named p f before m h.1, settled-named p f (before ∷ ms) h.2)

-- what a chain of settles says of the last of them
last-settle : (p : Opening) (m : Moment) (ms : List Moment) → Settled p (m ∷ ms) → AtSettle p m
last-settle p m [] h = h.settle
last-settle p m (before ∷ ms) h = h.0

-- ## Names of cores and tags
cores-named : (a b : ℕ) (ys : List order.Entry) → a ≡ b → NameCores a ys → NameCores b ys
cores-named a b ys e h = subst (λ n. NameCores n ys) e h

-- ## One epoch
module _ (terms : Terms) (p : Opening) (x y : FeedView) (cores cores' : List PlayCore) (m : Moment) (ms : List Moment) (line : SettleLine)
    (wires : IsWire terms x.replay.entries) (as_many : terms.cores ≡ p.cores) (at : IsAt p x cores m ms) (ports : length x.card.ports ≡ p.cores) (still : length cores' ≡ length cores)
    (batches : (c : ℕ) (d : PlayCore) → c < length cores → (get_or cores' c d).batch ≡ (get_or cores c d).batch)
    (b : FeedBecame x y) (plays : EpochPlays is_frame_work work_number stack_steps Advances Drains p.env x.card y.card cores cores')
    (fed : EntriesAreFed) (items_told : ItemsAreTold) (playable : WiresArePlayable) where
  -- the table of the opening, the entries before and the epoch's, as words
  abbrev opening : Table
  opening = opening_table p.live

  abbrev words : List order.Entry
  words = map entry_of m.done

  abbrev more_words : List order.Entry
  more_words = map entry_of b.told

  in_cores : (c : ℕ) → c < p.cores → c < length cores
  in_cores c lt = subst (λ n. c < n) (sym at.count) lt

  in_ports : (c : ℕ) → c < p.cores → c < length x.card.ports
  in_ports c lt = subst (λ n. c < n) (sym ports) lt

  core_at : (c : ℕ) → c < p.cores → PlayCore
  core_at c lt = any_of cores c (in_cores c lt)

  port_at : (c : ℕ) → c < p.cores → PortView
  port_at c lt = any_of x.card.ports c (in_ports c lt)

  carried : AreCarriedOut (map feeding.entry_of b.told) (length x.replay.lines) x.card y.card
  carried = fed x y b

  -- ### The lines
  told_lines : AreLinesOf b.carried b.told
  told_lines = fed-lines _ _ _ b.carried b.told _ _ b.fed

  all_lines : AreLinesOf (at.before ++ b.carried) (m.done ++ b.told)
  all_lines = lines-append at.before b.carried m.done b.told at.lines_are told_lines

  whole_list : x.replay.entries ≡ (at.before ++ b.carried) ++ left_of y.replay
  whole_list = at.split ∙ ap (λ (es : List Entry). at.before ++ es) b.left ∙ sym (append_assoc at.before b.carried (left_of y.replay))

  so_far : IsWireSoFar terms (at.before ++ b.carried)
  so_far = so-far-front terms (at.before ++ b.carried) (left_of y.replay) (subst (λ (es : List Entry). IsWireSoFar terms es) whole_list wires.so_far)

  both : map entry_of (m.done ++ b.told) ≡ words ++ more_words
  both = map-append entry_of m.done b.told

  is_playable : IsPlayable terms.cores (map entry_of (m.done ++ b.told))
  is_playable = playable terms (at.before ++ b.carried) (map entry_of (m.done ++ b.told)) so_far (are-seen (at.before ++ b.carried) (m.done ++ b.told) all_lines)

  count_words : length x.replay.lines ≡ length words
  count_words = sym (ap length at.done) ∙ count m.done where
    count : (ls : List EntryLine) → length ls ≡ length (map entry_of ls)
    count [] = refl
    count (l ∷ ls) = omega (arith, count ls)

  -- ### The rings
  new_words : (c : ℕ) → c < p.cores → map word (plays.items c) ≡ put_on c (seats x.card.table) (length x.replay.lines) (map feeding.entry_of b.told)
  new_words c lt =
      let q : PortView = port_at c lt in
      append_cancel_left (words_on (get_or x.card.ports c q)) (map word (plays.items c)) _
      (sym (map-append word (whole (get_or x.card.ports c q)) (plays.items c)) ∙ sym (ap (λ (its : List Item). map word its) (plays.put c q (in_cores c lt))) ∙ carried.rings c q (in_ports c lt))

  new_put : (c : ℕ) → c < p.cores → map (told work_number) (taken_in (plays.history c)) ≡ put_on c (turned_by opening words) (0 + length words) more_words
  new_put c lt =
      ap (λ (its : _). map (told work_number) its) (plays.took c (in_cores c lt)) ∙ told-words (plays.items c) ∙ new_words c lt
      ∙ put-on-same c (seats x.card.table) (turned_by opening words) (length x.replay.lines) (map feeding.entry_of b.told) at.table
      ∙ ap (λ n. put_on c (turned_by opening words) n (map feeding.entry_of b.told)) (omega (arith, count_words))
      ∙ ap (λ (es : List order.Entry). put_on c (turned_by opening words) (0 + length words) es) (words-of-lines b.told)

  put_all : AtSettle p m → (c : ℕ) → c < p.cores → map (told work_number) (taken_in (m.history c ++ plays.history c)) ≡ put_on c opening 0 (words ++ more_words)
  put_all was c lt =
      ap (λ (its : _). map (told work_number) its) (taken-append (m.history c) (plays.history c)) ∙ map-append (told work_number) (taken_in (m.history c)) (taken_in (plays.history c))
      ∙ ap (λ (ws : List order.Item). ws ++ map (told work_number) (taken_in (plays.history c))) (was.played.items c lt)
      ∙ ap (λ (ws : List order.Item). put_on c opening 0 words ++ ws) (new_put c lt) ∙ sym (put-on-append c opening 0 words more_words)

  placed : RingsAre (turned_by opening words) more_words
  placed = subst (λ (es : List order.Entry). RingsAre (turned_by opening words) es) (words-of-lines b.told) (rings-same (seats x.card.table) (turned_by opening words) (map feeding.entry_of b.told) at.table carried.placed)

  -- ### The moment
  next : Moment
  next = record { done = m.done ++ b.told; history = λ c. m.history c ++ plays.history c; desks = desks_in cores' m.desks; line = line }

  desks_then : (c : ℕ) (d : PlayCore) → c < length cores → (get_or cores' c d).desks ≡ next.desks c
  unfolding desks_in next
  desks_then c d lt = desks-found cores' (m.desks c) c d (subst (λ n. c < n) (sym still) lt)

  runs_then : (c : ℕ) → c < p.cores → Runs (StackHappened p.env) (m.desks c) (plays.history c) (next.desks c)
  runs_then c lt =
      let d : PlayCore = core_at c lt in
      subst (λ (v : View Stack Work). Runs (StackHappened p.env) v (plays.history c) (next.desks c)) (at.desks c d (in_cores c lt))
      (subst (λ (v : View Stack Work). Runs (StackHappened p.env) (get_or cores c d).desks (plays.history c) v) (desks_then c d (in_cores c lt)) (plays.runs c d (in_cores c lt)))

  from_all : AtSettle p m → (c d : ℕ) (s : Parcel Stack Work) → d < p.cores → In (came c s) (m.history d ++ plays.history d) → c < p.cores
  from_all was c d s lt h = by (in-split (came c s) (m.history d) (plays.history d) h) where
    by : In (came c s) (m.history d) ⊎ In (came c s) (plays.history d) → c < p.cores
    by (inl old) = was.played.from c d s lt old
    by (inr new) = subst (λ n. c < n) at.count (plays.from c d s (in_cores d lt) new)

  played_next : AtSettle p m → Played is_frame_work work_number stack_steps Advances Drains p.env p.cores opening (words ++ more_words) p.unit p.desks next.desks next.history
  unfolding next
  played_next was = record {
    core = was.played.core;
    tenure = was.played.tenure;
    names = subst (λ (es : List order.Entry). NameCores p.cores es) both (cores-named terms.cores p.cores (map entry_of (m.done ++ b.told)) as_many is_playable.names);
    rings = rings-append opening words more_words was.played.rings placed;
    size = was.played.size;
    here = was.played.here;
    opens = was.played.opens;
    runs = λ c lt. runs-append (StackHappened p.env) (m.history c) (plays.history c) (p.desks c) (m.desks c) (next.desks c) (was.played.runs c lt) (runs_then c lt);
    items = λ c lt. put_all was c lt;
    mesh = λ c d lt less.
        gone-append d (m.history c) (plays.history c)
        ∙ ap (λ (ss : List (Parcel Stack Work)). ss ++ gone_to d (plays.history c)) (was.played.mesh c d lt less)
        ∙ ap (λ (ss : List (Parcel Stack Work)). came_from c (m.history d) ++ ss) (plays.mesh c d (in_cores c lt) (in_cores d less))
        ∙ sym (came-append c (m.history d) (plays.history d));
    from = λ c d s lt h. from_all was c d s lt h;
    rest = λ c lt. subst (λ (v : View Stack Work). IsIdle v) (desks_then c (core_at c lt) (in_cores c lt)) (plays.rest c (core_at c lt) (in_cores c lt));
  }

  at_next : AtSettle p m → AtSettle p next
  unfolding next
  at_next was = record {
    played = subst (λ (es : List order.Entry). Played is_frame_work work_number stack_steps Advances Drains p.env p.cores opening es p.unit p.desks next.desks next.history) (sym both) (played_next was);
    alternate = is_playable.alternate;
  }

  goes_on : x.replay.ended ≡ false → y.replay.ended ≡ true → GoesOn p m next
  unfolding next
  goes_on begun over =
      let ends : EndsSo b.told = epoch-ends b.carried b.told told_lines (subst (λ e. EachAllowed comes_before_the_end ended_by e b.carried) begun b.epoch)
      (sym (ap (λ e. fold ended_by e b.carried) begun) ∙ sym b.ended ∙ over) in
      record {
        between = ends.between;
        no_settle = ends.no_settle;
        done = ap (λ (ls : List EntryLine). m.done ++ ls) ends.is;
        more = plays.history;
        history = λ c lt. refl;
        runs = runs_then;
        bounds = λ c lt max h. subst (λ n. max ≤ n) (at.batches c (core_at c lt) (in_cores c lt)) (plays.bounds c max (core_at c lt) (in_cores c lt) h);
      }

  -- ### The items
  rings_told : RingsAreTold x y
  rings_told = items_told x y b

  names : WireNo → Name
  names = name-on p.name (length m.done) rings_told.name

  names_stay : (w : WireNo) → w.0 < length m.done → names w ≡ p.name w
  unfolding names
  names_stay w lt = name-before p.name (length m.done) rings_told.name w lt

  lines_now : y.replay.lines ≡ m.done ++ b.told
  lines_now = b.lines ∙ ap (λ (ls : List EntryLine). ls ++ b.told) (sym at.done)

  frames_now : y.replay.frames ≡ p.frames
  frames_now = b.frames ∙ sym at.frames

  abbrev bound : ℕ
  bound = length x.replay.lines + length (map feeding.entry_of b.told)

  below : (c : ℕ) → c < p.cores → AllByRecursion (IsBelow bound) (plays.items c)
  below c lt =
      are-below (length x.replay.lines) bound (plays.items c)
      (subst (λ (ws : List order.Item). AreNumbered (length x.replay.lines) bound ws) (sym (new_words c lt)) (put-on-numbered c (seats x.card.table) (length x.replay.lines) (map feeding.entry_of b.told)))

  fed_items : (c : ℕ) → c < p.cores → AllByRecursion (IsFed c rings_told.name (length x.replay.lines) y.replay) (plays.items c)
  fed_items c lt =
      let q : PortView = port_at c lt in
      let ring : RingIsTold c rings_told.name (length x.replay.lines) y.replay (get_or x.card.ports c q) (get_or y.card.ports c q) = rings_told.rings c q (in_ports c lt) in
      subst (λ (its : List Item). AllByRecursion (IsFed c rings_told.name (length x.replay.lines) y.replay) its)
      (append_cancel_left (whole (get_or x.card.ports c q)) ring.items (plays.items c) (sym ring.more ∙ plays.put c q (in_cores c lt))) ring.are_told

  -- the line of a time, by its number
  times : (w t : ℕ) → w < bound → slice_get y.replay.entries w ≡ Some (wire.Time t) → slice_get y.replay.lines w ≡ Some (lines.Time t)
  times w t lt e =
      subst (λ (ls : List EntryLine). slice_get ls w ≡ Some (lines.Time t)) (sym lines_now)
      (time-at (at.before ++ b.carried) (m.done ++ b.told) w t all_lines
      (get-within (at.before ++ b.carried) (left_of y.replay) w (wire.Time t) within (subst (λ (es : List Entry). slice_get es w ≡ Some (wire.Time t)) (b.entries ∙ whole_list) e))) where
        count_lines : (es : List Entry) (ls : List EntryLine) → AreLinesOf es ls → length ls ≡ length es
        count_lines [] [] h = refl
        count_lines [] (l ∷ ls) h = absurd h
        count_lines (e ∷ es) [] h = absurd h
        count_lines (e ∷ es) (l ∷ ls) h = omega (arith, count_lines es ls h.1)

        count_map : (ls : List EntryLine) → length (map feeding.entry_of ls) ≡ length ls
        count_map [] = refl
        count_map (l ∷ ls) = omega (arith, count_map ls)

        within : w < length (at.before ++ b.carried)
        within = omega (arith, lt, count_map b.told, ap length at.done, length-append m.done b.told, count_lines (at.before ++ b.carried) (m.done ++ b.told) all_lines)

  told_next : AreTold (with_names p names) next
  unfolding next names
  told_next = record {
    records = all-append (HasRecord p.frames) m.done b.told at.told.records
        (subst (λ (fs : List (List ℕ)). AllByRecursion (HasRecord fs) b.told) (sym at.frames) (fed-records _ _ _ b.carried b.told _ _ b.fed));
    items = λ c lt.
        subst (λ (its : _). AllByRecursion (IsRingItemTold p.frames names (m.done ++ b.told)) its) (sym (taken-append (m.history c) (plays.history c)))
        (all-append (IsRingItemTold p.frames names (m.done ++ b.told)) (taken_in (m.history c)) (taken_in (plays.history c))
        (items-stay p.frames p.name names m.done b.told names_stay (taken_in (m.history c)) (at.told.items c lt))
        (subst (λ (its : _). AllByRecursion (IsRingItemTold p.frames names (m.done ++ b.told)) its) (sym (plays.took c (in_cores c lt))) (new_items c lt)));
  } where
    new_items : (c : ℕ) → c < p.cores → AllByRecursion (IsRingItemTold p.frames names (m.done ++ b.told)) (map ring_item (plays.items c))
    new_items c lt =
        subst (λ (fs : List (List ℕ)). AllByRecursion (IsRingItemTold fs names (m.done ++ b.told)) (map ring_item (plays.items c))) frames_now
        (subst (λ (ls : List EntryLine). AllByRecursion (IsRingItemTold y.replay.frames names ls) (map ring_item (plays.items c))) lines_now
        (items-fed p.name (length m.done) bound c y.replay rings_told.name times (plays.items c) (below c lt)
        (subst (λ n. AllByRecursion (IsFed c rings_told.name n y.replay) (plays.items c)) (sym (ap length at.done)) (fed_items c lt))))

  reached : x.replay.ended ≡ false → y.replay.ended ≡ true → Reached p y cores' m ms line
  unfolding next
  reached begun over =
      let was : AtSettle p m = last-settle p m ms at.settled in
      record {
        name = names;
        same = names_stay;
        next = next;
        line_is = refl;
        at = record {
          settled = (at-named p names next (at_next was), on-named p names m next (goes_on begun over), settled-named p names (m ∷ ms) at.settled);
          told = told_next;
          done = sym lines_now;
          frames = sym frames_now;
          before = at.before ++ b.carried;
          split = b.entries ∙ whole_list;
          lines_are = all_lines;
          table = λ g.
              carried.table g ∙ turned-by-same (seats x.card.table) (turned_by opening words) (map feeding.entry_of b.told) at.table g
              ∙ ap (λ (es : List order.Entry). turned_by (turned_by opening words) es g) (words-of-lines b.told)
              ∙ ap (λ (t : Table). t g) (sym (turned-by-append opening words more_words)) ∙ ap (λ (es : List order.Entry). turned_by opening es g) (sym both);
          count = still ∙ at.count;
          batches = λ c d lt. batches c d (subst (λ n. c < n) still lt) ∙ at.batches c d (subst (λ n. c < n) still lt);
          desks = λ c d lt. desks_then c d (subst (λ n. c < n) still lt);
        };
      }

pub epochs-reach : EntriesAreFed → ItemsAreTold → WiresArePlayable → EpochsReachSettles
epochs-reach fed items_told playable terms p x y cores cores' m ms line wires as_many at begun over ports still batches b plays =
    reached terms p x y cores cores' m ms line wires as_many at ports still batches b plays fed items_told playable begun over

-- ## A settle
pub settles-stay : SettlesStay
settles-stay p x y cores cores' m ms at entries frames lines_same table count same = record {
  settled = at.settled;
  told = at.told;
  done = at.done ∙ sym lines_same;
  frames = at.frames ∙ sym frames;
  before = at.before;
  split = entries ∙ at.split ∙ ap (λ (es : List Entry). at.before ++ es) left_same;
  lines_are = at.lines_are;
  table = λ g. ap (λ (t : _). seats t g) table ∙ at.table g;
  count = count ∙ at.count;
  batches = λ c d lt. (same c d (subst (λ n. c < n) count lt)).1 ∙ at.batches c d (subst (λ n. c < n) count lt);
  desks = λ c d lt. (same c d (subst (λ n. c < n) count lt)).0 ∙ at.desks c d (subst (λ n. c < n) count lt);
} where
  left_same : left_of x.replay ≡ left_of y.replay
  left_same = ap (λ (ls : List EntryLine). drop (length ls) x.replay.entries) (sym lines_same) ∙ ap (λ (es : List Entry). drop (length y.replay.lines) es) (sym entries)

-- ## The opening
home-or-not : (b : Bool) (u : Stack) → (group_has_work (let x : Group Stack Work = (if b then at_home u else empty) in x) ≡ false) × ((let x : Group Stack Work = (if b then at_home u else empty) in x).cut ≡ [])
home-or-not true u = (refl, refl)
home-or-not false u = (refl, refl)

idle-at-first : (p : Opening) (c : ℕ) → length (p.desks c).groups ≡ 512
    → ((g : ℕ) → g < FLOW_GROUPS → group_at (p.desks c) g ≡ (if c == (opening_table p.live g).core then at_home (p.unit g) else empty)) → IsIdle (p.desks c)
idle-at-first p c size opens = record {
  work = list_any_none group_has_work (p.desks c).groups (λ g d below.
      let within : g < FLOW_GROUPS = subst (λ n. g < n) size below in
      ap group_has_work (get_or_default (p.desks c).groups g d empty below ∙ opens g within) ∙ (home-or-not (c == (opening_table p.live g).core) (p.unit g)).0);
  done = λ g.
      elim (cases_lt g FLOW_GROUPS) [
        | inl within ↦ ap done_of (ap (λ (x : Group Stack Work). x.cut) (opens g within) ∙ (home-or-not (c == (opening_table p.live g).core) (p.unit g)).1)
        | inr past ↦ ap (λ (x : Group Stack Work). done_of x.cut) (get_or_past (p.desks c).groups g empty (subst (λ n. n ≤ g) (sym size) past))
      ];
}

pub openings-begin : WiresCanBeJoined → OpeningsBegin
openings-begin joined terms p x cores line wires as_many as_live some few none frames table count batches desks sizes opens =
    let can : CanBeJoined p.cores (opening_table p.live) [] =
    subst (λ n. CanBeJoined n (opening_table p.live) []) as_many
    (subst (λ l. CanBeJoined terms.cores (opening_table l) []) as_live
    (joined terms [] [] (subst (λ n. 1 ≤ n) (sym as_live) some) (omega (arith, as_live, as_many, few)) (so-far-front terms [] x.replay.entries wires.so_far) tt tt)) in
    record {
      first = record { done = []; history = λ c. []; desks = p.desks; line = line };
      line_is = refl;
      at = record {
        settled = record {
          settle = record {
            played = record {
              core = can.core;
              tenure = can.tenure;
              names = can.names;
              rings = can.rings;
              size = λ c lt. (sizes c lt).0;
              here = λ c lt. (sizes c lt).1;
              opens = opens;
              runs = λ c lt. refl;
              items = λ c lt. refl;
              mesh = λ c d lt less. refl;
              from = λ c d s lt h. absurd h;
              rest = λ c lt. idle-at-first p c (sizes c lt).0 (λ g within. opens c g lt within);
            };
            alternate = λ g lt. tt;
          };
          done = refl;
          bounds = λ c lt max h. absurd h;
        };
        told = record { records = tt; items = λ c lt. tt };
        done = sym none;
        frames = frames;
        before = [];
        split = ap (λ (ls : List EntryLine). drop (length ls) x.replay.entries) (sym none);
        lines_are = tt;
        table = table;
        count = count;
        batches = batches;
        desks = desks;
      };
    }
