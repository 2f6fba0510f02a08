use Rattle.std.proofs.Common.{◌≡◌, Err, rules}
use Rattle.live_turns.specs.declared.live.lived.LiveFault.TheVariants as fault
use Rattle.router_cli.proofs.Lives.{kept_else}
use Rattle.router_cli.proofs.living.lived.Goals as goal

pub returns-in-Err-ReadFault-clause-read : goal.returns-in-Err-ReadFault-clause-read
returns-in-Err-ReadFault-clause-read g c same =
    let is : c.run_live.result ≡ Err fault.ReadFault = search rules in
    c.run_live.ensures.read is

pub returns-in-Err-WriteFault-clause-folder_kept : goal.returns-in-Err-WriteFault-clause-folder_kept
returns-in-Err-WriteFault-clause-folder_kept g c =
    let is : c.run_live.result ≡ Err fault.WriteFault = search rules in
    kept_else c.run_live.result c.run_live.ensures.folder_kept is
