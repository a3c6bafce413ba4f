-- What a valid scenario can be relied on for.
use Rattle.std.proofs.Common.{◌≡◌, ℕ, ◌<◌, ◌^◌, List, length, Option, Some, None, refl, sym, subst, arith}
use Rattle.std.specs.Prelude.{◌≢◌, IfSome}
use Rattle.std.specs.List.{All}
use Rattle.stx_scenario.specs.Memory.{no_memory}
use Rattle.stx_scenario.specs.declared.numbers.MethodNo.{MethodNo}
use Rattle.stx_scenario.specs.declared.scenario.Scenario.{Scenario}
use Rattle.stx_scenario.specs.declared.scenario.TxAttr.{TxAttr}
use Rattle.stx_base.specs.Attributes.{attribute}
use Rattle.stx_graph.specs.declared.graph.GraphFault.{GraphFault}
use Rattle.stx_graph.specs.Graph.{IsDue}
use Rattle.stx_judge.specs.Judge.{IsValid}
use Rattle.stx_base.specs.Valid.{IsInOrder}
use Rattle.stx_base.proofs.ValidLaws.{HasFewRules, few_rules as rules_of}
use Rattle.stx_judge.proofs.JudgeLaws.{valid_is_in_order}

pub in_order : (S : Scenario) → IsValid S → IsInOrder S
in_order S valid = valid_is_in_order S valid

-- its call graph is refused for want of memory alone
pub only_memory : (S : Scenario) (fault : GraphFault) → IsInOrder S → IsDue S fault → fault ≢ GraphFault.NoMemory no_memory → ⊥
only_memory S (GraphFault.CallCycle m) order due other = order.acyclic m due.here.method due.here.cycle
only_memory S (GraphFault.TooDeep m) order due other = absurd (omega (arith, due.1.here.deep, order.shallow m due.1.here.method))
only_memory S GraphFault.TooLarge order due other = absurd (omega (arith, due.2, order.light))
only_memory S (GraphFault.NoMemory _) order due other = other refl

-- ---- each attribute has few rules

fewer : (tx : Option TxAttr) → IfSome tx HasFewRules → IfSome tx (λ tx. length tx.rules < 2 ^ 32)
fewer None few = tt
fewer (Some tx) few = omega (arith, few)

pub few_rules : (S T : Scenario) → T ≡ S → IsInOrder S → (m : MethodNo) → IfSome (attribute T m) (λ tx. length tx.rules < 2 ^ 32)
few_rules S T same order m =
    subst (λ (U : Scenario). IfSome (attribute U m) (λ tx. length tx.rules < 2 ^ 32)) (sym same) (fewer (attribute S m) (rules_of S order m))

-- ---- each turn of the schedule is a client's

pub turns_named : (S T : Scenario) (turns : List ℕ) → turns ≡ T.schedule → S ≡ T → IsInOrder S → All (λ client. client < length T.clients) turns
turns_named S T turns named same order =
    subst (λ ts. All (λ client. client < length T.clients) ts) (sym named)
    (subst (λ (U : Scenario). All (λ client. client < length U.clients) U.schedule) same order.places.turns)
