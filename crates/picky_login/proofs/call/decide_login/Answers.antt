-- What was given for the bytes means this.
use Rattle.picky_login.proofs.LoginLaws.{login_asks, login_decides}
use Rattle.picky_login.specs.Login.{HasUnsayable, login_given}
use Rattle.picky_login.proofs.call.decide_login.Goals as goal

pub returns-clause-decided : goal.returns-clause-decided
returns-clause-decided g c = λ agrees.
    let given = login_given c.args.authorized.now c.args.offer.now c.args.user.now c.args.moment c.args.answers.now in
    login_decides g.test given (HasUnsayable given) c.login_of_bytes.result c.login_of_bytes.ensures agrees

pub returns-clause-asked : goal.returns-clause-asked
returns-clause-asked g c =
    let given = login_given c.args.authorized.now c.args.offer.now c.args.user.now c.args.moment c.args.answers.now in
    login_asks given (HasUnsayable given) c.login_of_bytes.result c.login_of_bytes.ensures
