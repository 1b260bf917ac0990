use Rattle.std.proofs.Common.{◌≡◌, true, false, length, refl, sym, ap, ◌∙◌, arith}
use Rattle.std.proofs.lemmas.List.{length-take-le}
use Rattle.ticket.specs.Law.{content}
use Rattle.patch.specs.FirstPatch.{all_carried}
use Rattle.patch.proofs.Beginning.{drift_refused, room_refused, begins, begun}
use Rattle.patch.proofs.Box.{whole_covers}
use Rattle.patch.proofs.FirstPatch.{first_patch_represents}
use Rattle.patch.proofs.Sizes.{first_patch_is_bounded}
use Rattle.patch.proofs.first_patch.write_first_patch.Goals as goal

pub returns-then-not-all_carried : goal.returns-then-not-all_carried
returns-then-not-all_carried g c =
    let t = content c.args.ticket.now.ticket in
    let carried : all_carried g.K.Number.drifts t.terms ≡ false = sym (c.all_carried.ensures ∙ ap (all_carried g.K.Number.drifts) c.as_slice.ensures.value) ∙ c.if-not-all_carried.true in
    record {
      answer = drift_refused g.K.Number.drifts t (length c.args.work.now) carried;
      begun = tt;
      refused = refl;
      represents = first_patch_represents;
      covers = whole_covers;
      bounded = first_patch_is_bounded;
    }

pub returns-then-work-size : goal.returns-then-work-size
returns-then-work-size g c =
    let t = content c.args.ticket.now.ticket in
    let size = ap (λ s. s.patch) c.sizes-size.ensures in
    let short = c.if-work-size.true in
    let carried : all_carried g.K.Number.drifts t.terms ≡ true = sym (c.all_carried.ensures ∙ ap (all_carried g.K.Number.drifts) c.as_slice.ensures.value) ∙ c.if-not-all_carried.false in
    record {
      answer = room_refused g.K.Number.drifts t (length c.args.work.now) carried (omega arith);
      begun = tt;
      refused = refl;
      represents = first_patch_represents;
      covers = whole_covers;
      bounded = first_patch_is_bounded;
    }

pub fill-requires : goal.fill-requires
fill-requires g c = record {
  carried = sym (c.all_carried.ensures ∙ ap (all_carried g.K.Number.drifts) c.as_slice.ensures.value) ∙ c.if-not-all_carried.false;
  whole = length-take-le c.sizes-size.result.patch c.args.work.now c.if-work-size.false ∙ ap (λ s. s.patch) c.sizes-size.ensures;
}

pub returns : goal.returns
returns g c =
    let t = content c.args.ticket.now.ticket in
    let size = ap (λ s. s.patch) c.sizes-size.ensures in
    let carried : all_carried g.K.Number.drifts t.terms ≡ true = sym (c.all_carried.ensures ∙ ap (all_carried g.K.Number.drifts) c.as_slice.ensures.value) ∙ c.if-not-all_carried.false in
    record {
      answer = begins g.K.Number.drifts t (length c.args.work.now) carried (omega arith);
      begun = begun g.K.Number.means t c.args.work.now c.fill.new.patch c.sizes-size.result.patch size (c.fill.auto.patch ∙ length-take-le c.sizes-size.result.patch c.args.work.now c.if-work-size.false) c.fill.ensures;
      refused = tt;
      represents = first_patch_represents;
      covers = whole_covers;
      bounded = first_patch_is_bounded;
    }
