use Rattle.node_port.proofs.commands.read_untagged.Goals as goal

pub returns-in-Some : goal.returns-in-Some
returns-in-Some c = λ reader. c.read_letter.ensures reader c.args.text.now c.in-Some.ensures

pub returns-in-Some-behind_down : goal.returns-in-Some-behind_down
returns-in-Some-behind_down c = λ reader. c.read_down.ensures reader c.args.text.now c.in-Some-behind_down.ensures

pub returns-in-Some-behind_started : goal.returns-in-Some-behind_started
returns-in-Some-behind_started c = λ reader. c.read_started.ensures reader c.args.text.now c.in-Some-behind_started.ensures
