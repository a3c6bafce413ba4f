use Rattle.stx_tool.proofs.EndLaws.{done, ends}
use Rattle.stx_tool.proofs.program.top_call.Goals as goal

pub returns-clause-done : goal.returns-clause-done
returns-clause-done g c =
    done _ _ _ _ _ _ _ _ _ _ _ _ _ c.respond.result c.write_response.result c.respond.ensures c.write_response.ensures

pub returns-clause-ends : goal.returns-clause-ends
returns-clause-ends g c =
    ends _ _ _ _ _ _ _ _ _ _ _ _ _ c.respond.result c.write_response.result c.respond.ensures c.write_response.ensures
