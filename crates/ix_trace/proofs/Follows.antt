-- A line that may stand next is the next line of what has been read.
use Rattle.std.proofs.Common.{◌≡◌, ℕ, ◌+◌, ◌-◌, ◌<◌, ◌≤◌, List, [], ◌∷◌, ◌++◌, length, refl, ap, sym, ◌∙◌, subst, arith, append_assoc, Bool, true, Some}
use Rattle.std.specs.Prelude.{◌==◌, ◌&&◌, nat_lt, nat_le}
use Rattle.std.specs.List.{AllByRecursion}
use Rattle.std.proofs.lemmas.List.{append-nil}
use Rattle.std.proofs.lemmas.Bool.{cond_both, and_parts, eqb-true, ltb-true, leb-true}
use Rattle.std.proofs.lemmas.Option.{cond_some, same_Some}
use Rattle.ix_lines.specs.declared.line.Line.{Line}
use Rattle.ix_lines.specs.declared.line.Line.TheVariants as lines
use Rattle.ix_lines.specs.declared.types.Head.{Head}
use Rattle.ix_lines.specs.declared.types.RingLine.{RingLine}
use Rattle.ix_lines.specs.declared.types.HomeLine.{HomeLine}
use Rattle.ix_lines.specs.declared.types.SettleLine.{SettleLine}
use Rattle.ix_lines.specs.declared.types.ConnectLine.{ConnectLine}
use Rattle.ix_lines.specs.declared.types.EntryLine.{EntryLine}
use Rattle.ix_lines.specs.declared.types.EntryLine.TheVariants as entries
use Rattle.ix_lines.specs.declared.types.StrayLine.{StrayLine}
use Rattle.ix_lines.specs.declared.types.Opening.{Opening}
use Rattle.ix_lines.specs.declared.types.InputKind.{InputKind}
use Rattle.ix_lines.specs.declared.types.OutputLine.{OutputLine}
use Rattle.ix_lines.specs.declared.types.InputLine.{InputLine}
use Rattle.ix_lines.specs.declared.types.ConnLine.{ConnLine}
use Rattle.ix_tcpdef.specs.declared.types.Left.{Left}
use Rattle.ix_trace.specs.declared.sheet.Sheet.{Sheet}
use Rattle.ix_trace.specs.declared.sheet.Draft.{Draft}
use Rattle.ix_trace.specs.declared.progress.Progress.{Progress}
use Rattle.ix_trace.specs.declared.progress.Progress.TheVariants as states
use Rattle.ix_trace.specs.Sheet.{ring_lines, home_lines, settle_lines, open_lines, later, connect_lines, entry_lines, stray_lines, output_lines, input_lines, Last, no_conn, order_of, with_last, last_of, conn_lines, closed_lines, body_lines, IsFull, count_settles, Rise, NeverFall, IsReport}
use Rattle.ix_trace.specs.Machine.{when, is_full, nothing_printed, with_ring, with_home, settle_step, begun, with_connect, with_settle, with_stray, with_closed, begin_of, in_group, conn_of, with_conn, no_closed, no_conns, no_strays, no_entries, entry_read, goes_on, between_step, input_step, output_step, answer_step, step}
use Rattle.ix_trace.proofs.SoFar.{place_in, so_far, rings-append, homes-append, connects-append, closed-append, strays-append, outputs-append, inputs-append, conns-append, last_of-append, entries-append, count-append, later-append, open-append, length-later, length-snoc}

-- rings come first, and no core has two
pub record Printing (cores : ℕ) (s : SettleLine) : Type 0 where
  pub rings : length s.rings ≤ cores
  pub homes : length s.homes ≤ cores
  pub order : 0 < length s.homes → length s.rings ≡ cores

-- the least wire number of the next stray
abbrev pub next_of : ℕ → List StrayLine → ℕ
next_of low [] = low
next_of low (s ∷ ss) = next_of (s.w.0 + 1) ss

pub record IsBase (s : Sheet) : Type 0 where
  pub full : AllByRecursion (IsFull s.head.cores) s.settles
  pub count : length s.settles ≡ count_settles s.entries + 1
  pub rise : Rise 0 s.strays
  pub groups : NeverFall 0 s.conns

pub record IsDraft (d : Draft) : Type 0 where
  pub base : IsBase d.sheet
  pub next : next_of 0 d.sheet.strays ≡ d.next
  pub last : last_of no_conn d.sheet.conns ≡ record { group = d.group; next = length d.sheet.conns - d.begin }
  pub begin : d.begin ≤ length d.sheet.conns
  pub closed : length d.sheet.closed ≤ d.sheet.head.cores

pub record IsOpened (d : Draft) (o : Opening) : Type 0 where
  pub base : IsBase d.sheet
  pub next : next_of 0 d.sheet.strays ≡ d.next
  pub none : d.sheet.closed ≡ []
  pub low : (last_of no_conn d.sheet.conns).group ≤ o.group.0
  pub order : order_of (last_of no_conn d.sheet.conns) o.group.0 ≡ length d.sheet.conns - d.begin
  pub begin : d.begin ≤ length d.sheet.conns
  pub group : d.group ≡ o.group.0

-- nothing behind the entries
pub record IsEmpty (d : Draft) : Type 0 where
  pub strays : d.sheet.strays ≡ []
  pub conns : d.sheet.conns ≡ []
  pub closed : d.sheet.closed ≡ []

-- what holds of each place that is met
abbrev pub IsAlive : Progress → Type 0
IsAlive states.AtHead = Unit {0}
IsAlive (states.AtOpen h) = Unit {0}
IsAlive (states.InFirst h s) = Printing h.cores s
IsAlive (states.Between d) = IsDraft d
IsAlive (states.InSettle d s) = IsDraft d × IsEmpty d × Printing d.sheet.head.cores s
IsAlive (states.InConn d o is) = IsOpened d o
IsAlive (states.InInput d o is k os) = IsOpened d o
IsAlive (states.AtAnswer d o is f) = IsOpened d o
IsAlive (states.Done s) = IsReport s

-- the place is met, and has read one line more
pub record Follows (front : List Line) (l : Line) (t : Progress) : Type 0 where
  pub alive : IsAlive t
  pub said : so_far t ≡ front ++ l ∷ []

by_when : (said : List Line) (l : Line) (b : Bool) (x t : Progress) → when b x ≡ Some t → (b ≡ true → Follows said l x) → Follows said l t
by_when said l b x t e go = let c = cond_some b x t e in subst (Follows said l) c.1 (go c.0)

by_some : (said : List Line) (l : Line) (x t : Progress) → Some x ≡ Some t → Follows said l x → Follows said l t
by_some said l x t e p = subst (Follows said l) (same_Some x t e) p

nothing : {A : Type 0} (xs : List A) → (length xs == 0) ≡ true → xs ≡ []
nothing [] h = refl
nothing (x ∷ xs) h = absurd (let e = eqb-true (length (x ∷ xs)) 0 h in omega (arith, e))

-- ---- a settle's lines
module _ (said : List Line) (cores : ℕ) (go : SettleLine → Progress) (s : SettleLine)
    (reads : (t : SettleLine) → so_far (go t) ≡ said ++ settle_lines t)
    (lives : (t : SettleLine) → Printing cores t → IsAlive (go t)) (printing : Printing cores s) where
  settle_follows : (l : Line) (t : Progress) → settle_step cores s go l ≡ Some t → Follows (said ++ settle_lines s) l t
  settle_follows (lines.Ring core ring) t e =
      by_when _ _ ((nat_lt (length s.rings) cores && core == length s.rings) && length s.homes == 0) (go (with_ring s ring)) t e (λ h.
      let both = and_parts (nat_lt (length s.rings) cores && core == length s.rings) (length s.homes == 0) h in
      let more = and_parts (nat_lt (length s.rings) cores) (core == length s.rings) both.0 in
      let none : length s.homes ≡ 0 = eqb-true (length s.homes) 0 both.1 in
      let below : length s.rings < cores = ltb-true (length s.rings) cores more.0 in
      let at : core ≡ length s.rings = eqb-true core (length s.rings) more.1 in
      record {
        alive = lives (with_ring s ring) (record {
          rings = (let r = length-snoc s.rings ring in omega (arith, r));
          homes = printing.homes;
          order = λ pos. absurd (omega arith);
        });
        said = reads (with_ring s ring)
            ∙ ap (λ r. said ++ r) (ring_said s.rings s.homes core ring none at)
            ∙ sym (append_assoc said (settle_lines s) (lines.Ring core ring ∷ []));
      }) where
        ring_said : (rs : List RingLine) (hs : List HomeLine) (core : ℕ) (r : RingLine) → length hs ≡ 0 → core ≡ length rs
            → ring_lines 0 (rs ++ r ∷ []) ++ home_lines 0 hs ≡ (ring_lines 0 rs ++ home_lines 0 hs) ++ lines.Ring core r ∷ []
        ring_said rs [] core r none at =
            append-nil (ring_lines 0 (rs ++ r ∷ [])) ∙ rings-append 0 rs (r ∷ [])
            ∙ (let e : 0 + length rs ≡ core = omega arith in rw (e, append-nil (ring_lines 0 rs)) refl)
        ring_said rs (h ∷ hs) core r none at = absurd (omega arith)
  settle_follows (lines.Home core home) t e =
      by_when _ _ ((length s.rings == cores && nat_lt (length s.homes) cores) && core == length s.homes) (go (with_home s home)) t e (λ h.
      let both = and_parts (length s.rings == cores && nat_lt (length s.homes) cores) (core == length s.homes) h in
      let more = and_parts (length s.rings == cores) (nat_lt (length s.homes) cores) both.0 in
      let full : length s.rings ≡ cores = eqb-true (length s.rings) cores more.0 in
      let below : length s.homes < cores = ltb-true (length s.homes) cores more.1 in
      let at : core ≡ length s.homes = eqb-true core (length s.homes) both.1 in
      record {
        alive = lives (with_home s home) (record {
          rings = printing.rings;
          homes = (let r = length-snoc s.homes home in omega (arith, r));
          order = λ pos. full;
        });
        said = reads (with_home s home)
            ∙ ap (λ r. said ++ r) (home_said s.rings s.homes core home at)
            ∙ sym (append_assoc said (settle_lines s) (lines.Home core home ∷ []));
      }) where
        home_said : (rs : List RingLine) (hs : List HomeLine) (core : ℕ) (home : HomeLine) → core ≡ length hs
            → ring_lines 0 rs ++ home_lines 0 (hs ++ home ∷ []) ≡ (ring_lines 0 rs ++ home_lines 0 hs) ++ lines.Home core home ∷ []
        home_said rs hs core home at =
            let e : 0 + length hs ≡ core = omega arith in
            rw (homes-append 0 hs (home ∷ []), e) (sym (append_assoc (ring_lines 0 rs) (home_lines 0 hs) (lines.Home core home ∷ [])))
  settle_follows _ t e = absurd (cc)

-- ---- what is empty
conns_none : (d : Draft) → no_conns d ≡ true → (d.sheet.conns ≡ []) × (d.sheet.closed ≡ [])
conns_none d h =
    let both = and_parts (length d.sheet.conns == 0) (length d.sheet.closed == 0) h in (nothing d.sheet.conns both.0, nothing d.sheet.closed both.1)

strays_none : (d : Draft) → no_strays d ≡ true → IsEmpty d
strays_none d h =
    let both = and_parts (length d.sheet.strays == 0) (no_conns d) h in
    let more = conns_none d both.1 in
    record { strays = nothing d.sheet.strays both.0; conns = more.0; closed = more.1 }

-- ---- one connect more
in_fifth : (f c : List Line) (l : Line) → ((((f ++ (c ++ l ∷ [])) ++ []) ++ []) ++ []) ++ [] ≡ (((((f ++ c) ++ []) ++ []) ++ []) ++ []) ++ l ∷ []
in_fifth f c l = simp (append_assoc, append-nil)

connect_said : (s : Sheet) (a : ConnectLine) (peer : ℕ) → 0 + length s.connects ≡ peer → s.entries ≡ [] → s.strays ≡ [] → s.conns ≡ [] → s.closed ≡ []
    → body_lines (record s { connects = s.connects ++ a ∷ [] }) ≡ body_lines s ++ lines.Connect peer a ∷ []
connect_said s a peer at es ss cs ks =
    rw (es, ss, cs, ks, connects-append 0 s.connects (a ∷ []), at) (in_fifth (lines.Head s.head ∷ open_lines s.settles) (connect_lines 0 s.connects) (lines.Connect peer a))

-- ---- one entry more
in_fourth : (f e x : List Line) → (((f ++ (e ++ x)) ++ []) ++ []) ++ [] ≡ ((((f ++ e) ++ []) ++ []) ++ []) ++ x
in_fourth f e x = simp (append_assoc, append-nil)

plain_said : (s : Sheet) (e : EntryLine) (l : Line) → length s.settles ≡ count_settles s.entries + 1 → s.strays ≡ [] → s.conns ≡ [] → s.closed ≡ []
    → entry_lines (0 + length s.entries) (e ∷ []) [] ≡ l ∷ []
    → body_lines (record s { entries = s.entries ++ e ∷ [] }) ≡ body_lines s ++ l ∷ []
plain_said s e l count ss cs ks is =
    let more = rw (append-nil (later s.settles)) at (entries-append 0 s.entries (e ∷ []) (later s.settles) [] (length-later s.settles (count_settles s.entries) count)) in
    rw (ss, cs, ks, more, is) (in_fourth (lines.Head s.head ∷ open_lines s.settles ++ connect_lines 0 s.connects) (entry_lines 0 s.entries (later s.settles)) (l ∷ []))

pub settle_said : (d : Draft) (t : SettleLine) → IsDraft d → IsEmpty d
    → body_lines (with_settle d t).sheet ≡ body_lines d.sheet ++ lines.Entry (length d.sheet.entries) entries.Settle ∷ settle_lines t
settle_said d t draft none =
    let s = d.sheet in
    let count = draft.base.count in
    let some : 0 < length s.settles = omega (arith, count) in
    let at : 0 + length s.entries ≡ length s.entries = omega arith in
    let more = entries-append 0 s.entries (entries.Settle ∷ []) (later s.settles) (t ∷ []) (length-later s.settles (count_settles s.entries) count) in
    let ss = none.strays in
    let cs = none.conns in
    let ks = none.closed in
    rw (ss, cs, ks, open-append s.settles t some, later-append s.settles t some, more, at, append-nil (settle_lines t))
    (in_fourth (lines.Head s.head ∷ open_lines s.settles ++ connect_lines 0 s.connects) (entry_lines 0 s.entries (later s.settles))
    (lines.Entry (length s.entries) entries.Settle ∷ settle_lines t))

plain_base : (s : Sheet) (e : EntryLine) → IsBase s → count_settles (e ∷ []) ≡ 0 → IsBase (record s { entries = s.entries ++ e ∷ [] })
plain_base s e base none = record {
  full = base.full;
  count = (let c = count-append s.entries (e ∷ []) in let d = base.count in omega (arith, c, d, none));
  rise = base.rise;
  groups = base.groups;
}

all-push : (n : ℕ) (ss : List SettleLine) (s : SettleLine) → AllByRecursion (IsFull n) ss → IsFull n s → AllByRecursion (IsFull n) (ss ++ s ∷ [])
all-push n [] s all one = (one, tt)
all-push n (x ∷ ss) s all one = (all.0, all-push n ss s all.1 one)

pub settle_draft : (d : Draft) (s : SettleLine) → IsDraft d → IsFull d.sheet.head.cores s → IsDraft (with_settle d s)
settle_draft d s draft full = record {
  base = record {
    full = all-push d.sheet.head.cores d.sheet.settles s draft.base.full full;
    count = (let c = count-append d.sheet.entries (entries.Settle ∷ []) in let e = draft.base.count in let l = length-snoc d.sheet.settles s in omega (arith, c, e, l));
    rise = draft.base.rise;
    groups = draft.base.groups;
  };
  next = draft.next;
  last = draft.last;
  begin = draft.begin;
  closed = draft.closed;
}

pub nothing_printing : (n : ℕ) → Printing n nothing_printed
nothing_printing n = record { rings = omega arith; homes = omega arith; order = λ p. absurd (omega arith) }

-- ---- one stray more
in_third : (f s : List Line) (l : Line) → ((f ++ (s ++ l ∷ [])) ++ []) ++ [] ≡ (((f ++ s) ++ []) ++ []) ++ l ∷ []
in_third f s l = simp (append_assoc, append-nil)

rise-push : (low : ℕ) (ss : List StrayLine) (s : StrayLine) → Rise low ss → next_of low ss ≤ s.w.0 → Rise low (ss ++ s ∷ [])
rise-push low [] s all high = (high, tt)
rise-push low (x ∷ ss) s all high = (all.0, rise-push (x.w.0 + 1) ss s all.1 high)

next-push : (low : ℕ) (ss : List StrayLine) (s : StrayLine) → next_of low (ss ++ s ∷ []) ≡ s.w.0 + 1
next-push low [] s = refl
next-push low (x ∷ ss) s = next-push (x.w.0 + 1) ss s

stray_said : (s : Sheet) (x : StrayLine) → s.conns ≡ [] → s.closed ≡ [] → body_lines (record s { strays = s.strays ++ x ∷ [] }) ≡ body_lines s ++ lines.Stray x ∷ []
stray_said s x cs ks =
    rw (cs, ks, strays-append s.strays (x ∷ []))
    (in_third (lines.Head s.head ∷ open_lines s.settles ++ connect_lines 0 s.connects ++ entry_lines 0 s.entries (later s.settles)) (stray_lines s.strays) (lines.Stray x))

-- ---- one connection more
in_second : (f n i : List Line) (x l a : Line) → (f ++ (n ++ (x ∷ (i ++ l ∷ a ∷ [])))) ++ [] ≡ ((((f ++ n) ++ []) ++ x ∷ i) ++ l ∷ []) ++ a ∷ []
in_second f n i x l a = simp (append_assoc, append-nil)

pub conn_said : (d : Draft) (o : Opening) (is : List InputLine) (f : Left) (wrote taken : ℕ) → IsOpened d o
    → body_lines (with_conn d (conn_of o is f wrote taken)).sheet
    ≡ ((body_lines d.sheet ++ lines.Conn (place_in d) o ∷ input_lines is) ++ lines.Left f ∷ []) ++ lines.Answer wrote taken ∷ []
conn_said d o is f wrote taken opened =
    let s = d.sheet in
    let ks = opened.none in
    let order = opened.order in
    rw (ks, conns-append no_conn s.conns (conn_of o is f wrote taken ∷ []), order)
    (in_second (lines.Head s.head ∷ open_lines s.settles ++ connect_lines 0 s.connects ++ entry_lines 0 s.entries (later s.settles) ++ stray_lines s.strays)
    (conn_lines no_conn s.conns) (input_lines is) (lines.Conn (place_in d) o) (lines.Left f) (lines.Answer wrote taken))

never-push : (p : Last) (g : ℕ) (cs : List ConnLine) (c : ConnLine) → NeverFall g cs → p.group ≡ g → (last_of p cs).group ≤ c.group.0 → NeverFall g (cs ++ c ∷ [])
never-push p g [] c all at last = (rw (← at) last, tt)
never-push p g (x ∷ cs) c all at last = (all.0, never-push (with_last p x.group.0) x.group.0 cs c all.1 refl last)

pub conn_draft : (d : Draft) (o : Opening) (is : List InputLine) (f : Left) (wrote taken : ℕ) → IsOpened d o → IsDraft (with_conn d (conn_of o is f wrote taken))
conn_draft d o is f wrote taken opened =
    let c : ConnLine = conn_of o is f wrote taken in
    let group = opened.group in
    let order = opened.order in
    let low = opened.begin in
    let l = length-snoc d.sheet.conns c in
    let n : place_in d + 1 ≡ length (d.sheet.conns ++ c ∷ []) - d.begin = omega (arith, l, low) in
    record {
      base = record {
        full = opened.base.full;
        count = opened.base.count;
        rise = opened.base.rise;
        groups = never-push no_conn 0 d.sheet.conns c opened.base.groups refl opened.low;
      };
      next = opened.next;
      last = last_of-append no_conn d.sheet.conns (c ∷ [])
          ∙ ap (λ m. with_next o.group.0 (m + 1)) order ∙ ap (λ m. with_next o.group.0 m) n ∙ ap (λ g. with_next g (length (d.sheet.conns ++ c ∷ []) - d.begin)) (sym group);
      begin = omega (arith, l, low);
      closed = (let ks = opened.none in rw ks (omega arith));
    } where
      with_next : ℕ → ℕ → Last
      with_next g n = record { group = g; next = n }

opened_order : (d : Draft) (g : ℕ) → IsDraft d → order_of (last_of no_conn d.sheet.conns) g ≡ length d.sheet.conns - begin_of d g
opened_order d g draft =
    let last = draft.last in
    ap (λ p. order_of p g) last
    ∙ cond_both (d.group == g) (length d.sheet.conns - d.begin) 0 (λ r. r ≡ length d.sheet.conns - begin_of d g)
    (λ t. rw t refl) (λ t. rw t (omega arith))

opened_begin : (d : Draft) (g : ℕ) → IsDraft d → begin_of d g ≤ length d.sheet.conns
opened_begin d g draft =
    let low = draft.begin in
    cond_both (d.group == g) d.begin (length d.sheet.conns) (λ r. r ≤ length d.sheet.conns) (λ t. low) (λ t. omega arith)

-- ---- between whole things
-- an entry's line
entry_said : (d : Draft) (w : ℕ) (e : EntryLine) → IsDraft d → IsEmpty d → w ≡ length d.sheet.entries → Follows (body_lines d.sheet) (lines.Entry w e) (entry_read d e)
entry_said d w entries.Settle draft none at =
    record { alive = (draft, none, nothing_printing d.sheet.head.cores); said = ap (λ n. body_lines d.sheet ++ lines.Entry n entries.Settle ∷ []) (sym at) }
entry_said d w (entries.Frame rec at1 group ring fate) draft none at =
    let e : EntryLine = entries.Frame rec at1 group ring fate in
    let place : 0 + length d.sheet.entries ≡ w = omega (arith, at) in
    record {
      alive = record { base = plain_base d.sheet e draft.base refl; next = draft.next; last = draft.last; begin = draft.begin; closed = draft.closed };
      said = plain_said d.sheet e (lines.Entry w e) draft.base.count none.strays none.conns none.closed (ap (λ n. lines.Entry n e ∷ []) place);
    }
entry_said d w (entries.Time t) draft none at =
    let e : EntryLine = entries.Time t in
    let place : 0 + length d.sheet.entries ≡ w = omega (arith, at) in
    record {
      alive = record { base = plain_base d.sheet e draft.base refl; next = draft.next; last = draft.last; begin = draft.begin; closed = draft.closed };
      said = plain_said d.sheet e (lines.Entry w e) draft.base.count none.strays none.conns none.closed (ap (λ n. lines.Entry n e ∷ []) place);
    }
entry_said d w (entries.Tag group) draft none at =
    let e : EntryLine = entries.Tag group in
    let place : 0 + length d.sheet.entries ≡ w = omega (arith, at) in
    record {
      alive = record { base = plain_base d.sheet e draft.base refl; next = draft.next; last = draft.last; begin = draft.begin; closed = draft.closed };
      said = plain_said d.sheet e (lines.Entry w e) draft.base.count none.strays none.conns none.closed (ap (λ n. lines.Entry n e ∷ []) place);
    }
entry_said d w (entries.Move group to) draft none at =
    let e : EntryLine = entries.Move group to in
    let place : 0 + length d.sheet.entries ≡ w = omega (arith, at) in
    record {
      alive = record { base = plain_base d.sheet e draft.base refl; next = draft.next; last = draft.last; begin = draft.begin; closed = draft.closed };
      said = plain_said d.sheet e (lines.Entry w e) draft.base.count none.strays none.conns none.closed (ap (λ n. lines.Entry n e ∷ []) place);
    }

between_follows : (d : Draft) → IsDraft d → (l : Line) (t : Progress) → between_step d l ≡ Some t → Follows (body_lines d.sheet) l t
between_follows d draft (lines.Connect peer a) t e =
    by_when _ _ (no_entries d && peer == length d.sheet.connects) (states.Between (with_connect d a)) t e (λ h.
    let both = and_parts (no_entries d) (peer == length d.sheet.connects) h in
    let more = and_parts (length d.sheet.entries == 0) (no_strays d) both.0 in
    let none = strays_none d more.1 in
    let at : 0 + length d.sheet.connects ≡ peer = (let f = eqb-true peer (length d.sheet.connects) both.1 in omega (arith, f)) in
    record {
      alive = record {
        base = record { full = draft.base.full; count = draft.base.count; rise = draft.base.rise; groups = draft.base.groups };
        next = draft.next;
        last = draft.last;
        begin = draft.begin;
        closed = draft.closed;
      };
      said = connect_said d.sheet a peer at (nothing d.sheet.entries more.0) none.strays none.conns none.closed;
    })
between_follows d draft (lines.Entry w x) t e =
    by_when _ _ (no_strays d && w == length d.sheet.entries) (entry_read d x) t e (λ h.
    let both = and_parts (no_strays d) (w == length d.sheet.entries) h in
    entry_said d w x draft (strays_none d both.0) (eqb-true w (length d.sheet.entries) both.1))
between_follows d draft (lines.Stray s) t e =
    by_when _ _ (no_conns d && nat_le d.next s.w.0) (states.Between (with_stray d s)) t e (λ h.
    let both = and_parts (no_conns d) (nat_le d.next s.w.0) h in
    let none = conns_none d both.0 in
    let high : d.next ≤ s.w.0 = leb-true d.next s.w.0 both.1 in
    let next = draft.next in
    record {
      alive = record {
        base = record { full = draft.base.full; count = draft.base.count; rise = rise-push 0 d.sheet.strays s draft.base.rise (rw next high); groups = draft.base.groups };
        next = next-push 0 d.sheet.strays s;
        last = draft.last;
        begin = draft.begin;
        closed = draft.closed;
      };
      said = stray_said d.sheet s none.0 none.1;
    })
between_follows d draft (lines.Conn order o) t e =
    by_when _ _ (no_closed d && goes_on d o.group.0 order) (states.InConn (in_group d o.group.0) o []) t e (λ h.
    let both = and_parts (no_closed d) (goes_on d o.group.0 order) h in
    let more = and_parts (nat_le d.group o.group.0) (order == length d.sheet.conns - begin_of d o.group.0) both.1 in
    let rises : d.group ≤ o.group.0 = leb-true d.group o.group.0 more.0 in
    let last = draft.last in
    record {
      alive = record {
        base = draft.base;
        next = draft.next;
        none = nothing d.sheet.closed both.0;
        low = rw last rises;
        order = opened_order d o.group.0 draft;
        begin = opened_begin d o.group.0 draft;
        group = refl;
      };
      said = ap (λ n. body_lines d.sheet ++ lines.Conn n o ∷ []) (sym (eqb-true order (length d.sheet.conns - begin_of d o.group.0) more.1));
    })
between_follows d draft (lines.Closed core pool) t e =
    by_when _ _ (nat_lt (length d.sheet.closed) d.sheet.head.cores && core == length d.sheet.closed) (states.Between (with_closed d pool)) t e (λ h.
    let both = and_parts (nat_lt (length d.sheet.closed) d.sheet.head.cores) (core == length d.sheet.closed) h in
    let below : length d.sheet.closed < d.sheet.head.cores = ltb-true (length d.sheet.closed) d.sheet.head.cores both.0 in
    let at : 0 + length d.sheet.closed ≡ core = (let f = eqb-true core (length d.sheet.closed) both.1 in omega (arith, f)) in
    let m = length-snoc d.sheet.closed pool in
    record {
      alive = record {
        base = record { full = draft.base.full; count = draft.base.count; rise = draft.base.rise; groups = draft.base.groups };
        next = draft.next;
        last = draft.last;
        begin = draft.begin;
        closed = omega (arith, m, below);
      };
      said = closed_said d.sheet pool core at;
    }) where
      closed_said : (s : Sheet) (pool core : ℕ) → 0 + length s.closed ≡ core → body_lines (record s { closed = s.closed ++ pool ∷ [] }) ≡ body_lines s ++ lines.Closed core pool ∷ []
      closed_said s pool core at =
          rw (closed-append 0 s.closed (pool ∷ []), at)
          (sym (append_assoc (lines.Head s.head ∷ open_lines s.settles ++ connect_lines 0 s.connects ++ entry_lines 0 s.entries (later s.settles) ++ stray_lines s.strays ++ conn_lines no_conn s.conns) (closed_lines 0 s.closed) (lines.Closed core pool ∷ [])))
between_follows d draft (lines.End replies drops) t e =
    by_when _ _ (length d.sheet.closed == d.sheet.head.cores) (states.Done (record d.sheet { replies = replies; drops = drops })) t e (λ h.
    record {
      alive = record {
        full = draft.base.full;
        count = draft.base.count;
        rise = draft.base.rise;
        groups = draft.base.groups;
        closed = eqb-true (length d.sheet.closed) d.sheet.head.cores h;
      };
      said = refl;
    })
between_follows d draft _ t e = absurd (cc)

-- ---- a connection's lines
module _ (d : Draft) (o : Opening) (opened : IsOpened d o) where
  input_follows : (is : List InputLine) (l : Line) (t : Progress) → input_step d o is l ≡ Some t
      → Follows (body_lines d.sheet ++ lines.Conn (place_in d) o ∷ input_lines is) l t
  input_follows is (lines.Input k) t e = by_some _ _ (states.InInput d o is k []) t e (record { alive = opened; said = refl })
  input_follows is (lines.Left f) t e = by_some _ _ (states.AtAnswer d o is f) t e (record { alive = opened; said = refl })
  input_follows is _ t e = absurd (cc)

  output_follows : (is : List InputLine) (k : InputKind) (os : List OutputLine) (l : Line) (t : Progress) → output_step d o is k os l ≡ Some t
      → Follows (body_lines d.sheet ++ lines.Conn (place_in d) o ∷ input_lines is ++ lines.Input k ∷ output_lines os) l t
  output_follows is k os (lines.Output x) t e =
      by_some _ _ (states.InInput d o is k (os ++ x ∷ [])) t e (record {
        alive = opened;
        said = ap (λ r. (body_lines d.sheet ++ lines.Conn (place_in d) o ∷ input_lines is) ++ lines.Input k ∷ r) (outputs-append os (x ∷ []))
            ∙ sym (append_assoc (body_lines d.sheet ++ lines.Conn (place_in d) o ∷ input_lines is) (lines.Input k ∷ output_lines os) (lines.Output x ∷ []));
      })
  output_follows is k os l t e =
      let i : InputLine = record { kind = k; outputs = os } in
      subst (λ r. Follows r l t)
      (ap (λ r. body_lines d.sheet ++ lines.Conn (place_in d) o ∷ r) (inputs-append is (i ∷ [])
      ∙ ap (λ r. input_lines is ++ r) (append-nil (lines.Input k ∷ output_lines os)))
      ∙ sym (append_assoc (body_lines d.sheet) (lines.Conn (place_in d) o ∷ input_lines is) (lines.Input k ∷ output_lines os)))
      (input_follows (is ++ i ∷ []) l t e)

  answer_follows : (is : List InputLine) (f : Left) (l : Line) (t : Progress) → answer_step d o is f l ≡ Some t
      → Follows (body_lines d.sheet ++ lines.Conn (place_in d) o ∷ input_lines is ++ lines.Left f ∷ []) l t
  answer_follows is f (lines.Answer wrote taken) t e =
      by_some _ _ (states.Between (with_conn d (conn_of o is f wrote taken))) t e
      (record { alive = conn_draft d o is f wrote taken opened; said = conn_said d o is f wrote taken opened })
  answer_follows is f _ t e = absurd (cc)

printing_full : (cores : ℕ) (s : SettleLine) → is_full cores s ≡ true → IsFull cores s
printing_full cores s h =
    let both = and_parts (length s.rings == cores) (length s.homes == cores) h in
    record { rings = eqb-true _ _ both.0; homes = eqb-true _ _ both.1 }

pub first_draft : (h : Head) (s : SettleLine) → IsFull h.cores s → IsDraft (begun h s)
first_draft h s full = record {
  base = record { full = (full, tt); count = refl; rise = tt; groups = tt };
  next = refl;
  last = refl;
  begin = omega arith;
  closed = omega arith;
}

pub first_said : (h : Head) (s : SettleLine) → body_lines (begun h s).sheet ≡ lines.Head h ∷ lines.Open ∷ settle_lines s
first_said h s = five (lines.Head h ∷ lines.Open ∷ settle_lines s) where
  five : (f : List Line) → ((((f ++ []) ++ []) ++ []) ++ []) ++ [] ≡ f
  five f = simp append-nil

-- the law: what the machine lets through, it has read, and it stays alive
pub step_follows : (s : Progress) → IsAlive s → (l : Line) (t : Progress) → step s l ≡ Some t → Follows (so_far s) l t
unfolding step
step_follows states.AtHead h (lines.Head d) t e = by_some _ _ (states.AtOpen d) t e (record { alive = tt; said = refl })
step_follows states.AtHead h _ t e = absurd (cc)
step_follows (states.AtOpen d) h lines.Open t e = by_some _ _ (states.InFirst d nothing_printed) t e (record { alive = nothing_printing d.cores; said = refl })
step_follows (states.AtOpen d) h _ t e = absurd (cc)
step_follows (states.InFirst d s) h l t e =
    cond_both (is_full d.cores s) (between_step (begun d s) l) (settle_step d.cores s (states.InFirst d) l)
    (λ r. r ≡ Some t → Follows (lines.Head d ∷ lines.Open ∷ settle_lines s) l t)
    (λ full f. subst (λ r. Follows r l t) (first_said d s) (between_follows (begun d s) (first_draft d s (printing_full d.cores s full)) l t f))
    (λ part f. settle_follows (lines.Head d ∷ lines.Open ∷ []) d.cores (states.InFirst d) s (λ t. refl) (λ t p. p) h l t f)
    e
step_follows (states.Between d) h l t e = between_follows d h l t e
step_follows (states.InSettle d s) h l t e =
    cond_both (is_full d.sheet.head.cores s) (between_step (with_settle d s) l) (settle_step d.sheet.head.cores s (states.InSettle d) l)
    (λ r. r ≡ Some t → Follows (body_lines d.sheet ++ lines.Entry (length d.sheet.entries) entries.Settle ∷ settle_lines s) l t)
    (λ full f. subst (λ r. Follows r l t) (settle_said d s h.0 h.1)
    (between_follows (with_settle d s) (settle_draft d s h.0 (printing_full d.sheet.head.cores s full)) l t f))
    (λ part f. subst (λ r. Follows r l t) (append_assoc (body_lines d.sheet) (lines.Entry (length d.sheet.entries) entries.Settle ∷ []) (settle_lines s))
    (settle_follows (body_lines d.sheet ++ lines.Entry (length d.sheet.entries) entries.Settle ∷ []) d.sheet.head.cores (states.InSettle d) s
    (λ t. sym (append_assoc (body_lines d.sheet) (lines.Entry (length d.sheet.entries) entries.Settle ∷ []) (settle_lines t))) (λ t p. (h.0, h.1, p)) h.2 l t f))
    e
step_follows (states.InConn d o is) h l t e = input_follows d o h is l t e
step_follows (states.InInput d o is k os) h l t e = output_follows d o h is k os l t e
step_follows (states.AtAnswer d o is f) h l t e = answer_follows d o h is f l t e
step_follows (states.Done s) h l t e = absurd (cc)
