use Rattle.transactions.proofs.Alike.{total_alike}
use Rattle.transactions.proofs.alike_logs_say_the_same.Goals as goal

pub returns-clause-totals : goal.returns-clause-totals
returns-clause-totals c = total_alike
