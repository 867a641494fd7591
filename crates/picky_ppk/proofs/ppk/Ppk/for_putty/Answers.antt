-- What holds of the file that is made of the fields.
use Rattle.std.proofs.Common.{◌≡◌, false}
use Rattle.std.proofs.lemmas.Result.{IfOk-weaker}
use Rattle.picky_ppk_file.specs.File.{is_sealed}
use Rattle.picky_ppk.proofs.ForPuttyLaws.{IsForPutty, remade_is}
use Rattle.picky_ppk.proofs.ppk.Ppk.for_putty.Goals as goal

pub returns-in-Ok-clause-key : goal.returns-in-Ok-clause-key
returns-in-Ok-clause-key g c =
    let m = g.S.Suite.meanings c.args.suite.now in
    let unsealed : is_sealed c.args.self.now.sealing ≡ false = cc (c.is_encrypted.ensures, c.if-is_encrypted.false) in
    IfOk-weaker c.remade.result (IsForPutty m c.args.self.now) _ (λ file is. is.key)
    (remade_is m c.args.self.now c.in-Ok.file c.remade.result unsealed c.in-Ok.ensures.gives c.remade.ensures.gives)

pub returns-in-Ok-clause-comment : goal.returns-in-Ok-clause-comment
returns-in-Ok-clause-comment g c =
    let m = g.S.Suite.meanings c.args.suite.now in
    let unsealed : is_sealed c.args.self.now.sealing ≡ false = cc (c.is_encrypted.ensures, c.if-is_encrypted.false) in
    IfOk-weaker c.remade.result (IsForPutty m c.args.self.now) _ (λ file is. is.comment)
    (remade_is m c.args.self.now c.in-Ok.file c.remade.result unsealed c.in-Ok.ensures.gives c.remade.ensures.gives)

pub returns-in-Ok-clause-version : goal.returns-in-Ok-clause-version
returns-in-Ok-clause-version g c =
    let m = g.S.Suite.meanings c.args.suite.now in
    let unsealed : is_sealed c.args.self.now.sealing ≡ false = cc (c.is_encrypted.ensures, c.if-is_encrypted.false) in
    IfOk-weaker c.remade.result (IsForPutty m c.args.self.now) _ (λ file is. is.version)
    (remade_is m c.args.self.now c.in-Ok.file c.remade.result unsealed c.in-Ok.ensures.gives c.remade.ensures.gives)

pub returns-in-Ok-clause-layout : goal.returns-in-Ok-clause-layout
returns-in-Ok-clause-layout g c =
    let m = g.S.Suite.meanings c.args.suite.now in
    let unsealed : is_sealed c.args.self.now.sealing ≡ false = cc (c.is_encrypted.ensures, c.if-is_encrypted.false) in
    IfOk-weaker c.remade.result (IsForPutty m c.args.self.now) _ (λ file is. is.layout)
    (remade_is m c.args.self.now c.in-Ok.file c.remade.result unsealed c.in-Ok.ensures.gives c.remade.ensures.gives)

pub returns-in-Ok-clause-unchanged : goal.returns-in-Ok-clause-unchanged
returns-in-Ok-clause-unchanged g c = λ has carries.
    let m = g.S.Suite.meanings c.args.suite.now in
    let unsealed : is_sealed c.args.self.now.sealing ≡ false = cc (c.is_encrypted.ensures, c.if-is_encrypted.false) in
    IfOk-weaker c.remade.result (IsForPutty m c.args.self.now) _ (λ file is. is.same has carries)
    (remade_is m c.args.self.now c.in-Ok.file c.remade.result unsealed c.in-Ok.ensures.gives c.remade.ensures.gives)
