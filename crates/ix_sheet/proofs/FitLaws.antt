-- The report of a play fits.
use Rattle.std.proofs.Common.{◌≡◌, ℕ, suc, ◌+◌, ◌<◌, refl, sym, ap, ◌∙◌, subst, Bool, true, false, List, [], ◌∷◌, ◌++◌, length, get_or, map, append_assoc, arith}
use Rattle.std.specs.Prelude.{◌==◌, ◌&&◌, count_by, is_some, slice_get}
use Rattle.std.specs.List.{AllByRecursion, flat_map, list_all, range_with_len}
use Rattle.std.specs.List.Sorted.{IsPermutation}
use Rattle.std.proofs.lemmas.List.{map-append}
use Rattle.std.proofs.lemmas.List.Concat.{flat_map-append}
use Rattle.std.proofs.lemmas.List.Sorted.{IsPermutation-append_comm, IsPermutation-append_left, IsPermutation-append_right, IsPermutation-map, IsPermutation-refl, IsPermutation-sym, IsPermutation-trans}
use Rattle.ix_base.specs.declared.frame.Local.{Local}
use Rattle.ix_base.specs.declared.id.TheConstants.{FLOW_GROUPS}
use Rattle.ix_conf.specs.Settings.{Settings, settings_of}
use Rattle.ix_fits.specs.Card.{are_closed, fit_all, is_dropped, is_head, is_whole}
use Rattle.ix_fits.specs.Cutting.{IsCutting, dues}
use Rattle.ix_fits.specs.Fits.{CardFits, ConnectionsFit, Fits, GroupsFit, OwnersFit, RepliesFit, left_by}
use Rattle.ix_fits.specs.Journals.{AreConnLines, AreStrayLines, are_journals, buffer_of, conns_of, is_frame_of, is_stray_line, strays_of}
use Rattle.ix_fits.specs.Owners.{all_groups, all_settles}
use Rattle.ix_fits.specs.Replies.{AreReplies, conn_numbers, numbers_of, reply_file, stray_number}
use Rattle.ix_groupdef.specs.Group.{Cycle}
use Rattle.ix_groupdef.specs.declared.types.GroupRecord.{GroupRecord}
use Rattle.ix_groupdef.specs.declared.types.Stray.{Stray}
use Rattle.ix_lines.specs.declared.types.ConnLine.{ConnLine}
use Rattle.ix_lines.specs.declared.types.EntryLine.{EntryLine}
use Rattle.ix_lines.specs.declared.types.Head.{Head}
use Rattle.ix_lines.specs.declared.types.SettleLine.{SettleLine}
use Rattle.ix_lines.specs.declared.types.StrayLine.{StrayLine}
use Rattle.ix_playdef.specs.Order.{number_of, numbers_among}
use Rattle.ix_playdef.specs.Own.{local_of}
use Rattle.ix_playdef.specs.Placed.{placed}
use Rattle.ix_playdef.specs.Replies.{all_replies, by_opening, group_replies, opened_replies, stray_reply}
use Rattle.ix_playdef.specs.declared.order.Reply.{Reply}
use Rattle.ix_reta.specs.Table.{opening_core}
use Rattle.ix_trace.specs.Sheet.{IsReport}
use Rattle.ix_trace.specs.declared.sheet.Sheet.{Sheet}
use Rattle.ix_wire.specs.declared.entry.Entry.{Entry}
use Rattle.ix_sheet.specs.Lines.{by_place, group_conns, present}
use Rattle.ix_sheet.specs.Outcome.{CanBeReported}
use Rattle.ix_sheet.specs.Play.{IsPlay, PlaysCanBeReported, ReportsFit, play_with}
use Rattle.ix_sheet.specs.Sheet.{IsSheetOf, head_of}
use Rattle.ix_sheet.specs.Strays.{all_strays, group_strays, stray_line}
use Rattle.ix_sheet.specs.declared.outcome.Outcome.{Outcome}
use Rattle.ix_sheet.proofs.ConnLaws.{Split, all_below, split}
use Rattle.ix_sheet.proofs.Counts.{flat_map-moved}
use Rattle.ix_sheet.proofs.Groups.{AreOwn, all-moved, all-strays, all-tested, conns-of_group, strays-of_group, strays-printed}
use Rattle.ix_sheet.proofs.Plays.{IsTold, Laws, group-told}
use Rattle.ix_sheet.proofs.Printed.{conns-named, conns-printed, journals-printed, same-number, strays-named}
use Rattle.ix_sheet.proofs.SheetLaws.{sheet-report}

both_true : (a b : Bool) → a ≡ true → b ≡ true → (a && b) ≡ true
both_true true b p q = q
both_true false b p q = absurd (cc)

-- ## All groups
listed : (f : ℕ → GroupRecord) (at : ℕ) (rs : List GroupRecord) → ((i : ℕ) (d : GroupRecord) → i < length rs → get_or rs i d ≡ f (at + i)) → rs ≡ map f (range_with_len at (length rs))
listed f at [] each = refl
listed f at (r ∷ rs) each =
    let first : r ≡ f at = each 0 r (omega arith) ∙ ap f (let z : at + 0 ≡ at = omega arith in z) in
    ap (λ x. x ∷ rs) first
    ∙ ap (λ xs. f at ∷ xs) (listed f (at + 1) rs (λ i d lt. each (suc i) d (omega (arith, lt)) ∙ ap f (let z : at + suc i ≡ (at + 1) + i = omega arith in z)))

groups-listed : (f : ℕ → GroupRecord) (rs : List GroupRecord) → length rs ≡ FLOW_GROUPS → ((i : ℕ) (d : GroupRecord) → i < FLOW_GROUPS → get_or rs i d ≡ f i) → rs ≡ map f all_groups
unfolding all_groups
groups-listed f rs count each =
    listed f 0 rs (λ i d lt. each i d (omega (arith, lt, count)) ∙ ap f (let z : i ≡ 0 + i = omega arith in z)) ∙ ap (λ n. map f (range_with_len 0 n)) count

-- ## The replies of all groups, connections and strays apart
swap-inner : {B : Type 0} (ps qs rs ss : List B) → IsPermutation ((ps ++ qs) ++ (rs ++ ss)) ((ps ++ rs) ++ (qs ++ ss))
swap-inner ps qs rs ss =
    let inner : IsPermutation (qs ++ (rs ++ ss)) (rs ++ (qs ++ ss)) =
    subst (λ zs. IsPermutation zs (rs ++ (qs ++ ss))) (append_assoc qs rs ss)
    (subst (IsPermutation ((qs ++ rs) ++ ss)) (append_assoc rs qs ss) (IsPermutation-append_left ss (qs ++ rs) (rs ++ qs) (IsPermutation-append_comm qs rs))) in
    subst (λ zs. IsPermutation zs ((ps ++ rs) ++ (qs ++ ss))) (sym (append_assoc ps qs (rs ++ ss)))
    (subst (IsPermutation (ps ++ (qs ++ (rs ++ ss)))) (sym (append_assoc ps rs (qs ++ ss))) (IsPermutation-append_right ps (qs ++ (rs ++ ss)) (rs ++ (qs ++ ss)) inner))

interleaved : {A B : Type 0} (f g : ℕ → A → List B) (at : ℕ) (xs : List A) → IsPermutation (placed f at xs ++ placed g at xs) (placed (λ i x. f i x ++ g i x) at xs)
interleaved f g at [] = IsPermutation-refl []
interleaved f g at (x ∷ xs) =
    let fs = placed f (at + 1) xs in
    let gs = placed g (at + 1) xs in
    IsPermutation-trans ((f at x ++ fs) ++ (g at x ++ gs)) ((f at x ++ g at x) ++ (fs ++ gs)) ((f at x ++ g at x) ++ placed (λ i y. f i y ++ g i y) (at + 1) xs)
    (swap-inner (f at x) fs (g at x) gs)
    (IsPermutation-append_right (f at x ++ g at x) (fs ++ gs) (placed (λ i y. f i y ++ g i y) (at + 1) xs) (interleaved f g (at + 1) xs))

module _ (entries : List EntryLine) (replies : List Reply) (local : Local) where
  abbrev frames_of : ℕ → GroupRecord → List Reply
  frames_of g r = placed (opened_replies by_opening local g) 0 r.conns

  abbrev answers_in : ℕ → GroupRecord → List Reply
  answers_in g r = placed (stray_reply g) 0 r.strays

  abbrev number_in : Reply → ℕ
  number_in r = number_of replies r.key

  all-conns-named : (at : ℕ) (rs : List GroupRecord) (ls : List ConnLine) → present ls ≡ placed (group_conns entries replies) at rs
      → flat_map conn_numbers ls ≡ numbers_among replies (placed frames_of at rs)
  all-conns-named at [] [] e = refl
  all-conns-named at [] (l ∷ ls) e = absurd (cc)
  all-conns-named at (r ∷ rs) ls e =
      let s : Split ls (group_conns entries replies at r) (placed (group_conns entries replies) (at + 1) rs) = split ls _ _ e in
      ap (flat_map conn_numbers) s.whole ∙ flat_map-append conn_numbers s.front s.back
      ∙ ap (λ ns. ns ++ flat_map conn_numbers s.back) (conns-named entries replies local at r.conns s.front s.first)
      ∙ ap (λ ns. numbers_among replies (frames_of at r) ++ ns) (all-conns-named (at + 1) rs s.back s.second)
      ∙ sym (map-append number_in (frames_of at r) (placed frames_of (at + 1) rs))

  all-strays-named : (at : ℕ) (rs : List GroupRecord) → flat_map stray_number (placed (group_strays replies) at rs) ≡ numbers_among replies (placed answers_in at rs)
  all-strays-named at [] = refl
  all-strays-named at (r ∷ rs) =
      flat_map-append stray_number (group_strays replies at r) (placed (group_strays replies) (at + 1) rs)
      ∙ ap (λ ns. ns ++ flat_map stray_number (placed (group_strays replies) (at + 1) rs)) (strays-named replies at 0 r.strays)
      ∙ ap (λ ns. numbers_among replies (answers_in at r) ++ ns) (all-strays-named (at + 1) rs)
      ∙ sym (map-append number_in (answers_in at r) (placed answers_in (at + 1) rs))

  -- the lines name the replies, each once
  all-named : (rs : List GroupRecord) (strays : List StrayLine) (conns : List ConnLine) → IsPermutation (all_strays replies rs) strays → present conns ≡ placed (group_conns entries replies) 0 rs
      → IsPermutation (all_replies by_opening local rs) replies → IsPermutation (numbers_of strays conns) (numbers_among replies replies)
  all-named rs strays conns moved there same =
      let answers : List ℕ = numbers_among replies (placed answers_in 0 rs) in
      let frames : List ℕ = numbers_among replies (placed frames_of 0 rs) in
      let first : IsPermutation (flat_map stray_number strays) answers =
      subst (IsPermutation (flat_map stray_number strays)) (all-strays-named 0 rs)
      (IsPermutation-sym (flat_map stray_number (all_strays replies rs)) (flat_map stray_number strays) (flat_map-moved stray_number (all_strays replies rs) strays moved)) in
      let apart : IsPermutation (numbers_of strays conns) (answers ++ frames) =
      subst (λ ns. IsPermutation (flat_map stray_number strays ++ ns) (answers ++ frames)) (sym (all-conns-named 0 rs conns there))
      (IsPermutation-append_left frames (flat_map stray_number strays) answers first) in
      let joined : IsPermutation (answers ++ frames) (numbers_among replies (all_replies by_opening local rs)) =
      subst (λ ns. IsPermutation ns (numbers_among replies (all_replies by_opening local rs))) (map-append number_in (placed answers_in 0 rs) (placed frames_of 0 rs))
      (IsPermutation-map number_in (placed answers_in 0 rs ++ placed frames_of 0 rs) (all_replies by_opening local rs) (interleaved answers_in frames_of 0 rs)) in
      IsPermutation-trans (numbers_of strays conns) (answers ++ frames) (numbers_among replies replies) apart
      (IsPermutation-trans (answers ++ frames) (numbers_among replies (all_replies by_opening local rs)) (numbers_among replies replies) joined
      (IsPermutation-map number_in (all_replies by_opening local rs) replies same))

-- ## One group
record GroupIs (entries : List EntryLine) (local : Local) (replies : List Reply) (strays : List StrayLine) (conns : List ConnLine) (g : ℕ) (left : GroupRecord) : Type 0 where
  journals : are_journals entries left.conns (conns_of g conns) ≡ true
  strays_are : AreStrayLines left.strays (strays_of g entries strays)
  conns_are : AreConnLines left.conns (conns_of g conns)
  named : numbers_of (strays_of g entries strays) (conns_of g conns) ≡ numbers_among replies (group_replies by_opening local g left)

group-is : (entries : List EntryLine) (local : Local) (replies : List Reply) (strays : List StrayLine) (conns : List ConnLine) (g : ℕ) (left : GroupRecord)
    → present (conns_of g conns) ≡ group_conns entries replies g left → strays_of g entries strays ≡ group_strays replies g left → GroupIs entries local replies strays conns g left
group-is entries local replies strays conns g left there same =
    record {
      journals = journals-printed entries replies local g left.conns (conns_of g conns) there;
      strays_are = subst (AreStrayLines left.strays) (sym same) (strays-printed replies g 0 left.strays);
      conns_are = conns-printed entries replies local g 0 left.conns (conns_of g conns) there;
      named = ap (λ ls. flat_map stray_number ls ++ flat_map conn_numbers (conns_of g conns)) same
          ∙ ap (λ ns. ns ++ flat_map conn_numbers (conns_of g conns)) (strays-named replies g 0 left.strays)
          ∙ ap (λ ns. numbers_among replies (placed (stray_reply g) 0 left.strays) ++ ns) (conns-named entries replies local g left.conns (conns_of g conns) there)
          ∙ sym (map-append (λ (r : Reply). number_of replies r.key) (placed (stray_reply g) 0 left.strays) (placed (opened_replies by_opening local g) 0 left.conns));
    }

-- ## The report
head-fits : (s : Settings) (h : Head) → h ≡ head_of s → is_head s h ≡ true
head-fits s h e =
    subst (λ (k : Head). is_head s k ≡ true) (sym e)
    (both_true (s.cores == s.cores && s.batch == s.batch) (s.buffers == s.buffers) (both_true (s.cores == s.cores) (s.batch == s.batch) (same-number s.cores) (same-number s.batch)) (same-number s.buffers))

lines-held : (entries : List EntryLine) (replies : List Reply) (g at : ℕ) (ss : List Stray) → AllByRecursion (λ (s : Stray). is_some (buffer_of entries s.w.0) ≡ true) ss
    → AllByRecursion (λ (l : StrayLine). is_stray_line entries l ≡ true) (by_place (stray_line replies g) at ss)
lines-held entries replies g at [] p = tt
lines-held entries replies g at (s ∷ ss) p = (p.0, lines-held entries replies g (at + 1) ss p.1)

-- what is used of a play and its report
record Given (s : Settings) (frames : List (List ℕ)) (wire : List Entry) (cycles : ℕ → List Cycle) (o : Outcome) (replies : List Reply) (r : Sheet) : Type 0 where
  play : IsPlay s frames wire cycles o
  can : CanBeReported s.cores o
  told : (g : ℕ) → g < FLOW_GROUPS → IsTold o.entries g (left_by s frames cycles g)
  ordered : AreReplies by_opening (local_of s) o.groups replies
  numbered : numbers_among replies replies ≡ range_with_len 0 (length replies)
  sheet : IsSheetOf (head_of s) o replies r

module _ (s : Settings) (frames : List (List ℕ)) (wire : List Entry) (cycles : ℕ → List Cycle) (o : Outcome) (replies : List Reply) (r : Sheet) (x : Given s frames wire cycles o replies r) where
  abbrev left : ℕ → GroupRecord
  left g = left_by s frames cycles g

  report-is : IsReport r
  report-is = sheet-report (head_of s) o replies r x.can x.sheet

  told-at : (g : ℕ) (d : GroupRecord) → g < length o.groups → IsTold o.entries g (get_or o.groups g d)
  told-at g d lt =
      let below : g < FLOW_GROUPS = omega (arith, lt, x.play.groups.count) in
      subst (IsTold o.entries g) (sym (x.play.groups.each g d below)) (x.told g below)

  owns : AreOwn o.entries 0 o.groups
  owns =
      record {
        own = λ i d lt.
            subst (λ (n : ℕ). AllByRecursion (λ (t : Stray). is_frame_of n (slice_get o.entries t.w.0) ≡ true) (get_or o.groups i d).strays) (let z : i ≡ 0 + i = omega arith in z) (told-at i d lt).own;
      }

  one-group-is : (g : ℕ) → g < FLOW_GROUPS → GroupIs o.entries (local_of s) replies r.strays r.conns g (left g)
  one-group-is g lt =
      let within : g < length o.groups = omega (arith, lt, x.play.groups.count) in
      let d : GroupRecord = left g in
      let is : get_or o.groups g d ≡ left g = x.play.groups.each g d lt in
      let z : 0 + g ≡ g = omega arith in
      let there : present (conns_of g r.conns) ≡ group_conns o.entries replies g (left g) =
      subst (λ (k : GroupRecord). present (conns_of g r.conns) ≡ group_conns o.entries replies g k) is
      (subst (λ (n : ℕ). present (conns_of n r.conns) ≡ group_conns o.entries replies n (get_or o.groups g d)) z (conns-of_group o.entries replies 0 o.groups r.conns g d x.sheet.conns within)) in
      let same : strays_of g o.entries r.strays ≡ group_strays replies g (left g) =
      subst (λ (k : GroupRecord). strays_of g o.entries r.strays ≡ group_strays replies g k) is
      (strays-of_group o.entries replies o.groups r.strays g d within owns x.sheet.strays report-is.rise ((told-at g d within).rises replies)) in
      group-is o.entries (local_of s) replies r.strays r.conns g (left g) there same

  group-of : (g : ℕ) → g < FLOW_GROUPS → GroupIs r.entries (local_of s) replies r.strays r.conns g (left g)
  group-of g lt = subst (λ (es : List EntryLine). GroupIs es (local_of s) replies r.strays r.conns g (left g)) (sym x.sheet.entries) (one-group-is g lt)

  card-fits : CardFits s frames wire r
  card-fits =
      record {
        head = head-fits s r.head x.sheet.head_is;
        entries_are = subst (λ (es : List EntryLine). fit_all s frames wire es r.settles ≡ true) (sym x.sheet.entries)
            (subst (λ (ss : List SettleLine). fit_all s frames wire o.entries ss ≡ true) (sym x.sheet.settles) x.play.card);
        settles = subst (λ (ss : List SettleLine). list_all (is_whole s.cores s.buffers) ss ≡ true) (sym x.sheet.settles) x.play.settles;
        closed = subst (λ (ns : List ℕ). are_closed s ns ≡ true) (sym x.sheet.closed) x.play.closed;
        drops = x.sheet.drops ∙ ap (count_by is_dropped) (sym x.sheet.entries);
      }

  owners-fit : OwnersFit s frames r cycles
  owners-fit =
      record {
        settles = subst (λ (es : List EntryLine). all_settles (play_with s frames es cycles) r.settles ≡ true) (sym x.sheet.entries)
            (subst (λ (ss : List SettleLine). all_settles (play_with s frames o.entries cycles) ss ≡ true) (sym x.sheet.settles) x.play.owners);
      }

  strays-held : AllByRecursion (λ (l : StrayLine). is_stray_line o.entries l ≡ true) r.strays
  strays-held =
      all-moved (λ (l : StrayLine). is_stray_line o.entries l ≡ true) (all_strays replies o.groups) r.strays x.sheet.strays
      (all-strays (λ (l : StrayLine). is_stray_line o.entries l ≡ true) replies 0 o.groups
      (λ i d lt. lines-held o.entries replies (0 + i) 0 (get_or o.groups i d).strays (told-at i d lt).held))

  groups-fit : GroupsFit s frames r cycles
  groups-fit =
      record {
        each = λ g lt.
            record {
              cut = subst (λ (es : List EntryLine). IsCutting s.batch (dues frames g (opening_core s.live g).0 es) (cycles g)) (sym x.sheet.entries) (x.play.cut g lt);
              journals = (group-of g lt).journals;
              strays = (group-of g lt).strays_are;
            };
        conns = all_below o.entries replies FLOW_GROUPS 0 o.groups r.conns (omega (arith, x.play.groups.count)) x.sheet.conns;
        strays = subst (λ (es : List EntryLine). list_all (is_stray_line es) r.strays ≡ true) (sym x.sheet.entries) (all-tested (is_stray_line o.entries) r.strays strays-held);
      }

  connections-fit : ConnectionsFit s frames r cycles
  connections-fit = record { each = λ g lt. (group-of g lt).conns_are; connects = x.sheet.connects ∙ x.play.connects }

  replies-fit : RepliesFit s frames wire r (record { cycles = cycles; places = by_opening; replies = replies }) (reply_file wire replies)
  replies-fit =
      record {
        order = record { apart = λ entry group phase a b same. same; connects = λ entry group opening. refl; taken = λ entry group opening. refl };
        replies = subst (λ (rs : List GroupRecord). AreReplies by_opening (local_of s) rs replies)
            (groups-listed left o.groups x.play.groups.count (λ i d lt. x.play.groups.each i d lt)) x.ordered;
        file_is = refl;
        named = λ g lt. (group-of g lt).named;
        once = record {
          same = subst (λ (n : ℕ). IsPermutation (numbers_of r.strays r.conns) (range_with_len 0 n)) (sym x.sheet.replies_are)
              (subst (IsPermutation (numbers_of r.strays r.conns)) x.numbered (all-named o.entries replies (local_of s) o.groups r.strays r.conns x.sheet.strays x.sheet.conns x.ordered.same));
        };
        count = x.sheet.replies_are;
      }

  fits : Fits s frames wire r (reply_file wire replies)
  fits =
      record {
        report = report-is;
        choice = record { cycles = cycles; places = by_opening; replies = replies };
        fits = record { card = card-fits; owners = owners-fit; groups = groups-fit; connections = connections-fit; replies = replies-fit };
      }

pub reports_fit : Laws → PlaysCanBeReported → ReportsFit
reports_fit laws can conf frames t wire cycles o replies r six bytes far play ordered numbered sheet =
    fits (settings_of conf) frames wire cycles o replies r
    (record {
      play = play;
      can = can conf frames t wire cycles o six bytes far play;
      told = group-told laws conf frames wire cycles o six bytes play;
      ordered = ordered;
      numbered = numbered;
      sheet = sheet;
    })
