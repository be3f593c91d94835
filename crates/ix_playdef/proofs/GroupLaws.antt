-- What the groups leave, one after another.
use Rattle.std.proofs.Common.{◌≡◌, ℕ, suc, ◌+◌, ◌<◌, refl, sym, ap, ◌∙◌, subst, List, [], ◌∷◌, ◌++◌, length, get_or, arith, length-append, inl, inr}
use Rattle.std.proofs.lemmas.Bool.{cases_eq}
use Rattle.std.proofs.lemmas.List.{get_or_append_left}
use Rattle.std.proofs.Math.Seq.{get_or-append_seam}
use Rattle.ix_conf.specs.Settings.{Settings}
use Rattle.ix_groupdef.specs.declared.types.GroupRecord.{GroupRecord}
use Rattle.ix_groupdef.specs.Group.{Connect}
use Rattle.ix_groupdef.specs.Setting.{Setting}
use Rattle.ix_wire.specs.declared.entry.Entry.{Entry}
use Rattle.ix_playdef.specs.declared.wire.Given.{Given}
use Rattle.ix_playdef.specs.Connects.{connects_of}
use Rattle.ix_playdef.specs.Setting.{setting_of_play}
use Rattle.ix_playdef.specs.Wire.{group_entries, AreGiven}
use Rattle.ix_playdef.specs.Groups.{record_given, AreRecordsGiven, AreRecords}

-- ## List by list
pub records-none : (env : Setting) (cs : List Connect) → AreRecordsGiven env cs [] []
records-none env cs = record { count = refl; each = λ group d lt. absurd (omega arith) }

records-push : (env : Setting) (cs : List Connect) (lists : List (List Given)) (records : List GroupRecord) (given : List Given) (left : GroupRecord)
    → AreRecordsGiven env cs lists records → left ≡ record_given env cs (length records) given → AreRecordsGiven env cs (lists ++ given ∷ []) (records ++ left ∷ [])
records-push env cs lists records given left before e =
    record {
      count = length-append records (left ∷ []) ∙ ap (λ n. n + 1) before.count ∙ sym (length-append lists (given ∷ []));
      each = λ group d lt. elim (cases_eq group (length records)) [
        | inl is ↦ rw is (get_or-append_seam records left [] d ∙ e
            ∙ ap (record_given env cs (length records))
            (sym (ap (λ n. get_or (lists ++ given ∷ []) n []) before.count ∙ get_or-append_seam lists given [] [])))
        | inr other ↦ (let less : group < length records = omega (arith, length-append records (left ∷ [])) in
            let within : group < length lists = omega (arith, before.count) in
            get_or_append_left records (left ∷ []) d group less ∙ before.each group d less
            ∙ ap (record_given env cs group) (sym (get_or_append_left lists (given ∷ []) [] group within)))
      ];
    }

pub records-more : (env : Setting) (cs : List Connect) (lists : List (List Given)) (records after : List GroupRecord) (given : List Given) (n : ℕ) (left : GroupRecord)
    → after ≡ records ++ left ∷ [] → AreRecordsGiven env cs lists records → n ≡ length records → left ≡ record_given env cs n given
    → AreRecordsGiven env cs (lists ++ given ∷ []) after
records-more env cs lists records after given n left put before long e =
    subst (AreRecordsGiven env cs (lists ++ given ∷ [])) (sym put)
    (records-push env cs lists records given left before (e ∙ ap (λ m. record_given env cs m given) long))

-- fewer than all are taken
pub fewer : (xs ys all : List (List Given)) (x : List Given) → xs ++ x ∷ ys ≡ all → length all ≡ 512 → length xs < 512
fewer xs ys all x e n = let long : length xs + suc (length ys) ≡ 512 = sym (length-append xs (x ∷ ys)) ∙ ap length e ∙ n in omega arith

pub ruleset for_lists = (records-none, records-more, fewer)

-- ## All of a play
pub records-all : (s : Settings) (frames : List (List ℕ)) (entries : List Entry) (env : Setting) (cs : List Connect) (lists : List (List Given)) (records : List GroupRecord)
    → env ≡ setting_of_play s frames → cs ≡ connects_of s → length lists ≡ 512 → AreGiven frames entries lists → AreRecordsGiven env cs lists records → AreRecords s frames entries records
records-all s frames entries env cs lists records setting connects long given left =
    record {
      count = left.count ∙ long;
      each = λ group d lt.
          left.each group d lt
          ∙ ap (record_given env cs group) (given.each group [] (omega (arith, left.count)))
          ∙ ap (λ (e : Setting). record_given e cs group (group_entries frames group entries)) setting
          ∙ ap (λ xs. record_given (setting_of_play s frames) xs group (group_entries frames group entries)) connects;
    }

pub ruleset for_records = (records-all)
