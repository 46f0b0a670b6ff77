use Rattle.laws_order.proofs.Rule.{rule_leads_to_order, rule_leads_to_no_other}
use Rattle.laws_order.proofs.laws.prediction_degree_is_its_rule.Goals as goal

pub returns-clause-leads : goal.returns-clause-leads
returns-clause-leads c = rule_leads_to_order

pub returns-clause-alone : goal.returns-clause-alone
returns-clause-alone c = rule_leads_to_no_other
