-- The fourth point by what the groups leave, and the law on places.
use Rattle.std.proofs.Common.{◌≡◌, ℕ, ◌<◌, refl, sym, ap, ◌∙◌, subst, List, get_or, length, arith}
use Rattle.std.specs.Prelude.{Bool, Err, IfOk, Ok, Result, slice_index_or}
use Rattle.std.specs.Bool.{Decides}
use Rattle.std.specs.List.{range_with_len}
use Rattle.std.proofs.lemmas.List.{get_or-map, length-map}
use Rattle.std.proofs.lemmas.List.FromFn.{get_or-range_with_len, length-range_with_len}
use Rattle.ix_base.specs.declared.frame.Local.{Local}
use Rattle.ix_base.specs.declared.id.TheConstants.{FLOW_GROUPS}
use Rattle.ix_conf.specs.Settings.{Settings}
use Rattle.ix_groupdef.specs.declared.types.GroupRecord.{GroupRecord}
use Rattle.ix_groupdef.specs.Group.{Cycle}
use Rattle.ix_playdef.specs.Own.{local_of}
use Rattle.ix_playdef.specs.Replies.{Places}
use Rattle.ix_playdef.specs.declared.order.Reply.{Reply}
use Rattle.ix_trace.specs.declared.sheet.Sheet.{Sheet}
use Rattle.ix_wire.specs.declared.entry.Entry.{Entry}
use Rattle.ix_fits.specs.Fits.{Choice, RepliesFit, left_by}
use Rattle.ix_fits.specs.Journals.{conns_of, strays_of}
use Rattle.ix_fits.specs.Owners.{all_groups}
use Rattle.ix_fits.specs.Replies.{NamesItsReplies}
use Rattle.ix_places.specs.Filed.{AreFiled, AreSomehowFiled, RepliesFitIn, records_by}
use Rattle.ix_places.specs.Laws.{PlacesAreTold}
use Rattle.ix_places.proofs.FiledLaws.{told-filed}

-- ## All groups
groups-long : length all_groups ≡ FLOW_GROUPS
unfolding all_groups
groups-long = length-range_with_len 0 FLOW_GROUPS

group-at : (g : ℕ) → g < FLOW_GROUPS → get_or all_groups g 0 ≡ g
unfolding all_groups
group-at g lt = let found : get_or (range_with_len 0 FLOW_GROUPS) g 0 ≡ g = omega (arith, get_or-range_with_len 0 FLOW_GROUPS g 0 lt) in found

pub records-long : (s : Settings) (frames : List (List ℕ)) (cycles : ℕ → List Cycle) → length (records_by s frames cycles) ≡ FLOW_GROUPS
records-long s frames cycles = length-map all_groups (left_by s frames cycles) ∙ groups-long

record-at : (s : Settings) (frames : List (List ℕ)) (cycles : ℕ → List Cycle) (g : ℕ) (d : GroupRecord) → g < FLOW_GROUPS → slice_index_or (records_by s frames cycles) g d ≡ left_by s frames cycles g
record-at s frames cycles g d lt =
    let within : g < length all_groups = omega (arith, groups-long, lt) in
    get_or-map (left_by s frames cycles) all_groups g 0 d within ∙ ap (left_by s frames cycles) (group-at g lt)

-- ## The fourth point
module _ (s : Settings) (frames : List (List ℕ)) (entries : List Entry) (r : Sheet) (file : List ℕ) (cycles : ℕ → List Cycle) where
  pub filed-from_fit : (c : Choice) → c.cycles ≡ cycles → RepliesFit s frames entries r c file → AreFiled (local_of s) (records_by s frames cycles) entries r file c.places c.replies
  filed-from_fit c is fit =
      subst (λ cs. AreFiled (local_of s) (records_by s frames cs) entries r file c.places c.replies) is
      (record {
        order = fit.order;
        replies = fit.replies;
        file_is = fit.file_is;
        named = λ g d lt.
            let below : g < FLOW_GROUPS = omega (arith, lt, records-long s frames c.cycles) in
            subst (λ (left : GroupRecord). NamesItsReplies c.places (local_of s) c.replies g left (strays_of g r.entries r.strays) (conns_of g r.conns)) (sym (record-at s frames c.cycles g d below))
            (fit.named g below);
        once = fit.once;
        count = fit.count;
      })

  pub fit-from_filed : (places : Places) (sorted : List Reply) → AreFiled (local_of s) (records_by s frames cycles) entries r file places sorted
      → RepliesFit s frames entries r (record { cycles = cycles; places = places; replies = sorted }) file
  fit-from_filed places sorted filed =
      record {
        order = filed.order;
        replies = filed.replies;
        file_is = filed.file_is;
        named = λ g lt.
            let within : g < length (records_by s frames cycles) = omega (arith, lt, records-long s frames cycles) in
            subst (λ (left : GroupRecord). NamesItsReplies places (local_of s) sorted g left (strays_of g r.entries r.strays) (conns_of g r.conns))
            (record-at s frames cycles g (left_by s frames cycles g) lt) (filed.named g (left_by s frames cycles g) within);
        once = filed.once;
        count = filed.count;
      }

  pub in-from_somehow : AreSomehowFiled (local_of s) (records_by s frames cycles) entries r file → RepliesFitIn s frames entries r file cycles
  in-from_somehow some = record { places = some.places; replies = some.replies; fit = fit-from_filed some.places some.replies some.filed }

  pub somehow-from_in : RepliesFitIn s frames entries r file cycles → AreSomehowFiled (local_of s) (records_by s frames cycles) entries r file
  somehow-from_in fit =
      record {
        places = fit.places;
        replies = fit.replies;
        filed = filed-from_fit (record { cycles = cycles; places = fit.places; replies = fit.replies }) refl fit.fit;
      }

-- what decides that it is filed decides the point
pub fit-decided : (s : Settings) (frames : List (List ℕ)) (cycles : ℕ → List Cycle) (local : Local) (records : List GroupRecord) (entries : List Entry) (r : Sheet) (file : List ℕ) (fit : Bool)
    → Decides fit (AreSomehowFiled local records entries r file) → local ≡ local_of s → records ≡ records_by s frames cycles → Decides fit (RepliesFitIn s frames entries r file cycles)
fit-decided s frames cycles local records entries r file fit decides is_local is_records =
    let filed : Decides fit (AreSomehowFiled (local_of s) (records_by s frames cycles) entries r file) =
    subst (λ (l : Local). Decides fit (AreSomehowFiled l (records_by s frames cycles) entries r file)) is_local
    (subst (λ (rs : List GroupRecord). Decides fit (AreSomehowFiled local rs entries r file)) is_records decides) in
    (λ e. in-from_somehow s frames entries r file cycles (filed.0 e), λ in_point. filed.1 (somehow-from_in s frames entries r file cycles in_point))

pub ok_then : {X E : Type 0} (r : Result X E) {P Q : X → Type 0} → IfOk r P → ((x : X) → P x → Q x) → IfOk r Q
ok_then (Ok x) h then = then x h
ok_then (Err e) h then = tt

-- ## The law on places
pub places-are_told : PlacesAreTold
places-are_told s frames entries r file c fits =
    record {
      card = fits.card;
      owners = fits.owners;
      groups = fits.groups;
      connections = fits.connections;
      replies =
          let told = told-filed (local_of s) (records_by s frames c.cycles) entries r file c.places c.replies (filed-from_fit s frames entries r file c.cycles c refl fits.replies) in
          fit-from_filed s frames entries r file c.cycles _ _ told;
    }
