use Rattle.std.proofs.Common.{List, ℕ, [], ◌++◌, ◌∙◌, codes, unwrap_or, append_assoc, sym, ap}
use Rattle.std.specs.Option.{option_map}
use Rattle.stx_base.specs.Lines.{bean_name, method_text}
use Rattle.stx_judge.proofs.texts.Names.method.Goals as goal

pub returns : goal.returns
returns c =
    let S = c.args.self.now.scenario.now in
    let method = c.method-method.result.now in
    c.from_text.ensures ∙ c.in_ok-format.ensures.ok ∙ sym (append_assoc c.bean_name-bean.result.now (codes ".") c.as_str-name.result.now)
    ∙ ap (λ (bean : List ℕ). bean ++ codes "." ++ c.as_str-name.result.now) c.bean_name-bean.ensures
    ∙ ap (λ (name : List ℕ). bean_name S method.bean ++ codes "." ++ name) c.as_str-name.ensures
    ∙ sym (ap (λ method. unwrap_or (option_map (method_text S) method) []) c.method-method.ensures)
