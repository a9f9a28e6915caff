use Rattle.transactions.proofs.Behind.{sent_behind}
use Rattle.transactions.proofs.waiting_is_sent_behind.Goals as goal

pub returns : goal.returns
returns c = sent_behind
