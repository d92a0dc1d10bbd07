-- What contracts see of commands and their words.
use Rattle.cp_commands.specs.AuditWords as audit
use Rattle.cp_commands.specs.ClientWords as client
use Rattle.cp_commands.specs.Commands as spec
use Rattle.cp_commands.specs.Commands.Command.{Judge as SpecJudge, Verify as SpecVerify, Keygen as SpecKeygen, AskPut as SpecAskPut, AskGet as SpecAskGet, Accept as SpecAccept, Audit as SpecAudit, Replay as SpecReplay, Certify as SpecCertify, JudgeLife as SpecJudgeLife, Forgery as SpecForgery}
use Rattle.cp_commands.specs.MoreWords as more
use Rattle.cp_commands.specs.ReplayWords as replay
use Rattle.cp_commands.specs.declared.audit_words.AuditWords.{AuditWords}
use Rattle.cp_commands.specs.declared.client_words.AcceptWords.{AcceptWords}
use Rattle.cp_commands.specs.declared.client_words.CallWords.{CallWords}
use Rattle.cp_commands.specs.declared.client_words.GetWords.{GetWords}
use Rattle.cp_commands.specs.declared.client_words.PutWords.{PutWords}
use Rattle.cp_commands.specs.declared.command.Command.{Command}
use Rattle.cp_commands.specs.declared.command.Command.TheVariants.{Judge, Verify, Keygen, AskPut, AskGet, Accept, Audit, Replay, Certify, JudgeLife, Forgery}
use Rattle.cp_commands.specs.declared.certify_words.CertifyWords.{CertifyWords}
use Rattle.cp_commands.specs.declared.more_words.ForgeryWords.{ForgeryWords}
use Rattle.cp_commands.specs.declared.replay_words.ReplayWords.{ReplayWords}

abbrev pub audit_words_view : AuditWords → audit.AuditWords
audit_words_view words = record { key = words.key.now; epoch = words.epoch; hand_ins = words.hand_ins.now; out = words.out.now }

abbrev pub call_words_view : CallWords → client.CallWords
call_words_view call = record { epoch = call.epoch; block = call.block; client = call.client; nonce = call.nonce }

abbrev pub put_words_view : PutWords → client.PutWords
put_words_view words = record { seed = words.seed.now; height = words.height; ots = words.ots; store = words.store.now; call = call_words_view words.call; version = words.version; content = words.content.now; out = words.out.now }

abbrev pub get_words_view : GetWords → client.GetWords
get_words_view words = record { store = words.store.now; call = call_words_view words.call; out = words.out.now }

abbrev pub accept_words_view : AcceptWords → client.AcceptWords
accept_words_view words = record { store = words.store.now; request = words.request.now; reply = words.reply.now; out = words.out.now; content = words.content.now }

abbrev pub replay_words_view : ReplayWords → replay.ReplayWords
replay_words_view words = record { seed = words.seed.now; height = words.height; ots = words.ots; pages = words.pages; script = words.script.now; by = words.by }

abbrev pub certify_words_view : CertifyWords → more.CertifyWords
certify_words_view words = record { seed = words.seed.now; top = words.top; height = words.height; ots = words.ots; life = words.life; key = words.key.now; certificate = words.certificate.now; out = words.out.now }

abbrev pub forgery_words_view : ForgeryWords → more.ForgeryWords
forgery_words_view words = record { seed = words.seed.now; height = words.height; ots = words.ots; signed = words.signed.now; text = words.text.now; signature = words.signature.now }

abbrev pub command_view : Command → spec.Command
command_view (Judge key evidence) = SpecJudge key.now evidence.now
command_view (Verify key text signature) = SpecVerify key.now text.now signature.now
command_view (Keygen seed height ots out) = SpecKeygen seed.now height ots out.now
command_view (AskPut words) = SpecAskPut (put_words_view words)
command_view (AskGet words) = SpecAskGet (get_words_view words)
command_view (Accept words) = SpecAccept (accept_words_view words)
command_view (Audit words) = SpecAudit (audit_words_view words)
command_view (Replay words) = SpecReplay (replay_words_view words)
command_view (Certify words) = SpecCertify (certify_words_view words)
command_view (JudgeLife key certificate evidence) = SpecJudgeLife key.now certificate.now evidence.now
command_view (Forgery words) = SpecForgery (forgery_words_view words)
