-- Each group by itself.
use Rattle.std.proofs.Common.{◌∙◌, ap, map, take, drop, length}
use Rattle.stx_names.specs.Duplicates.{number_of_method}
use Rattle.stx_names.proofs.DuplicateLaws.{named_so}
use Rattle.stx_names.proofs.named.names_of.Goals as goal

pub returns : goal.returns
returns c =
    let S = c.args.scenario.now in
    named_so S _ _ _ _ _ _ _
    (c.in_ok-names_from.ensures ∙ ap (map (λ name. name)) c.as_slice-3.ensures)
    (c.in_ok-names_from-2.ensures ∙ ap (map (λ name. name)) (c.first-rows.ensures ∙ ap (λ n. take n c.as_slice.result.now) c.len.ensures ∙ ap (take (length S.values)) c.as_slice.ensures))
    (c.in_ok-names_from-3.ensures ∙ ap (map (λ class. class.name)) (c.past-classes.ensures ∙ ap (drop 17) c.as_slice-2.ensures))
    (c.in_ok-names_from-4.ensures ∙ ap (map (λ bean. bean.name)) c.as_slice-4.ensures)
    (c.in_ok-numbers_of_methods.ensures ∙ ap (map number_of_method) c.as_slice-5.ensures)
    (c.in_ok-names_from-5.ensures ∙ ap (map (λ sync. sync.name)) c.as_slice-6.ensures)
    (c.in_ok-names_from-6.ensures ∙ ap (map (λ listener. listener.name)) c.as_slice-7.ensures)
