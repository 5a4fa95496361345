use Rattle.std.proofs.Common.{◌≡◌, eqb, ◌&&◌, List, length, get_or, pos, filter, ap, ◌∙◌, rules, arith}
use lib.Signed.{lt_z}
use Rattle.std.specs.List.{range_with_len, list_any, zip}
use Rattle.std.proofs.lemmas.Iterator.{YieldsList-from_slice, YieldsList-from_zip}
use Rattle.std.proofs.lemmas.Iterator.Search.{any_from_yields_List}
use borrow.Author.Tests.{tests}
use Rattle.events.specs.declared.resource.Resource.{Resource}
use Rattle.events.specs.Resources.{no_resource}
use Rattle.settlement.specs.Sums.{largest, at}
use Rattle.lines.proofs.Refunding.{above_any}
use Rattle.lines.proofs.hour_of_day.HourOfDay.is_refunding.Goals as goal

pub returns : goal.returns
returns c =
    let m = c.args.member in
    let fs = c.args.refunds.now in
    let rs = c.resources-resources.result.now in
    let h : c.any.result ≡ list_any (λ x. eqb x.0.owner m && lt_z (pos 0) x.1) (zip rs fs) =
    any_from_yields_List (λ x. eqb x.0.owner m && lt_z (pos 0) x.1) c.any.new.self _ c.any.result c.any.ensures.ran (YieldsList-from_zip (YieldsList-from_slice rs (search rules)) (YieldsList-from_slice fs (search rules))) (λ x b q k. search (rules, tests)) in
    h ∙ above_any m rs fs (omega arith)
    ∙ ap (λ (rs : List Resource). lt_z (pos 0) (largest (filter (λ k. eqb (get_or rs k no_resource).owner m) (range_with_len 0 (length rs))) (at fs))) c.resources-resources.ensures.value
